-- What is promised of the encoding (document 02, No. 4). The proofs are in proofs/Inverse.antt and proofs/WordBytes.antt.
use Rattle.std.specs.Prelude.{◌≡◌, true, List, [], ◌∷◌, ◌++◌, ℕ, ◌*◌, ◌^◌, ◌<◌, length, get_or, replicate}
use Rattle.words.specs.Words.{numbers, number_bytes}
use Rattle.rules.specs.declared.Controller.{Controller}
use Rattle.codec.specs.Encoding.{Encodes, Fits, encoded, new_host}
use Rattle.codec.specs.Supposed.{is_record, supposed}

-- every byte is below 256
abbrev pub Bytes : List ℕ → Type 0
Bytes bytes = (i : ℕ) → get_or bytes i 0 < 256

-- ---- the record

-- it has 90 bytes
unfoldable pub Ninety : Type 0
Ninety = (c : Controller) → Fits c → length (encoded c) ≡ 90

-- a new host's
unfoldable pub NewHostBytes : Type 0
NewHostBytes =
    encoded new_host
    ≡ (1 ∷ 0 ∷ 2 ∷ 0 ∷ 0 ∷ 2 ∷ 0 ∷ 2 ∷ 0 ∷ 0 ∷ 3 ∷ 0 ∷ 64 ∷ [])
    ++ replicate 64 0
    ++ (4 ∷ 0 ∷ 1 ∷ 1 ∷ 5 ∷ 0 ∷ 1 ∷ 2 ∷ 6 ∷ 0 ∷ 2 ∷ 0 ∷ 0 ∷ [])

-- encoded and decoded: the same record
unfoldable pub DecodesBack : Type 0
DecodesBack = (c : Controller) → Fits c → (is_record (encoded c) ≡ true) × (supposed (encoded c) ≡ c)

-- decoded and encoded: the same bytes
unfoldable pub EncodesBack : Type 0
EncodesBack = (bytes : List ℕ) → Bytes bytes → is_record bytes ≡ true → Encodes bytes (supposed bytes)

-- each record has one encoding, and bytes encode one record at most
unfoldable pub OneEncoding : Type 0
OneEncoding = (bytes bytes' : List ℕ) (c : Controller) → Encodes bytes c → Encodes bytes' c → bytes ≡ bytes'

unfoldable pub OneRecord : Type 0
OneRecord = (bytes : List ℕ) (c c' : Controller) → Encodes bytes c → Encodes bytes c' → c ≡ c'

-- bytes that the test turns down encode no record
unfoldable pub NoOther : Type 0
NoOther = (bytes : List ℕ) (c : Controller) → Encodes bytes c → (is_record bytes ≡ true) × (supposed bytes ≡ c)

-- ---- the table

-- written and read: the same words
unfoldable pub TableBack : Type 0
TableBack = (table : List ℕ) → ((i : ℕ) → get_or table i 0 < 256 ^ 8) → numbers (number_bytes table) 0 (length table) ≡ table

-- read and written: the same bytes
unfoldable pub TableBytesBack : Type 0
TableBytesBack = (bytes : List ℕ) (slots : ℕ) → Bytes bytes → length bytes ≡ 8 * slots → number_bytes (numbers bytes 0 slots) ≡ bytes
