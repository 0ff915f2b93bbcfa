-- What a field of the trace asks for, by its tag and its value (document 01, The bench trace).
use Rattle.std.specs.Prelude.{◌&&◌, cond, List, ℕ, eqb, leb, length, take, drop, get_or}
use Rattle.fields.specs.Fields.{big_number}
use Rattle.asking.specs.declared.Asked.{Asked}
use Rattle.asking.specs.declared.Asked.TheVariants.{Format, Store, Load, Begin, Step, Allow, Recover, Bad}

-- the two-byte number at a place of a value
unfoldable pub number_at : List ℕ → ℕ → ℕ
number_at value start = big_number (take 2 (drop start value))

abbrev pub byte_at : List ℕ → ℕ → ℕ
byte_at value start = get_or value start 0

-- so many bytes, or bad
unfoldable pub sized : ℕ → List ℕ → Asked → Asked
sized n value asks = cond (eqb (length value) n) asks Bad

-- N(2) B(2) fill(1)
unfoldable pub asked_format : List ℕ → Asked
asked_format value = sized 5 value (Format (record { blocks = number_at value 0; slots = number_at value 2 }) (byte_at value 4))

-- block(2) offset(1) bytes(1 to 64)
unfoldable pub asked_store : List ℕ → Asked
asked_store value = cond (leb 4 (length value) && leb (length value) 67) (Store (number_at value 0) (byte_at value 2)) Bad

-- the bytes of a store
abbrev pub store_bytes : List ℕ → List ℕ
store_bytes value = drop 3 value

-- block(2) offset(1) length(1)
unfoldable pub asked_load : List ℕ → Asked
asked_load value = sized 4 value (Load (number_at value 0) (byte_at value 2) (byte_at value 3))

-- one byte
unfoldable pub asked_begin : List ℕ → Asked
asked_begin value = sized 1 value (Begin (byte_at value 0))

-- n(2)
unfoldable pub asked_step : List ℕ → Asked
asked_step value = sized 2 value (Step (number_at value 0))

-- p(2)
unfoldable pub asked_allow : List ℕ → Asked
asked_allow value = sized 2 value (Allow (number_at value 0))

-- empty
unfoldable pub asked_recover : List ℕ → Asked
asked_recover value = sized 0 value Recover

unfoldable pub asked : ℕ → List ℕ → Asked
asked tag value =
    cond (eqb tag 1) (asked_format value)
    (cond (eqb tag 2) (asked_store value)
    (cond (eqb tag 3) (asked_load value)
    (cond (eqb tag 4) (asked_begin value)
    (cond (eqb tag 5) (asked_step value) (cond (eqb tag 6) (asked_allow value) (cond (eqb tag 7) (asked_recover value) Bad))))))
