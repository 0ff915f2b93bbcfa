-- House fields: one-byte tag, two-byte length, value; numbers big-endian (document 01: The bench trace).
use Rattle.std.specs.Prelude.{List, [], ◌∷◌, ◌++◌, ℕ, zero, suc, ◌+◌, ◌*◌, ◌/◌, ◌%◌, ◌^◌, length}

-- a number as n bytes, the highest first
unfoldable pub big_endian : ℕ → ℕ → List ℕ
big_endian zero x = []
big_endian (suc n) x = big_endian n (x / 256) ++ ((x % 256) ∷ [])

unfoldable pub big_number : List ℕ → ℕ
big_number [] = 0
big_number (b ∷ bytes) = b * 256 ^ length bytes + big_number bytes

unfoldable pub field : ℕ → List ℕ → List ℕ
unfolding big_endian
field tag value = tag ∷ (big_endian 2 (length value) ++ value)

pub record Field : Type 0 where
  pub tag : ℕ
  pub value : List ℕ

infix 20 ◌holds◌
abbrev pub ◌holds◌ : ℕ → List ℕ → Field
tag holds value = record { tag = tag; value = value }

-- one field after another
unfoldable pub fields_of : List Field → List ℕ
unfolding field
fields_of [] = []
fields_of (f ∷ fields) = field f.tag f.value ++ fields_of fields
