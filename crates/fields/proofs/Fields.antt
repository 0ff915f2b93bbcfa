-- Fields: their length, and that they read back in one way only.
use mathlib.Core.Path.{◌≡◌, refl, sym, ap, ◌∙◌}
use mathlib.Core.List.{List, [], ◌∷◌, ◌++◌}
use Prim.Native.Nat.{ℕ, ◌+◌, ◌/◌, ◌%◌, ◌<◌}
use native.Mathlib.Omega.{arith}
use lib.ListN.{length, take, drop}
use lib.Seq.{take-append_seam, drop-append_seam}
use Rattle.fields.specs.Fields.{big_endian, field, Field, fields_of}

pub length-field : (tag : ℕ) (value : List ℕ) → length (field tag value) ≡ 3 + length value
unfolding field big_endian
length-field tag value = omega arith

pub record Same (tag tag' : ℕ) (value value' rest rest' : List ℕ) : Type 0 where
  pub tags : tag ≡ tag'
  pub values : value ≡ value'
  pub rests : rest ≡ rest'

-- bytes that begin with a field begin with one only
pub field_one : (tag tag' : ℕ) (value value' rest rest' : List ℕ) → length value < 65536 → length value' < 65536
    → field tag value ++ rest ≡ field tag' value' ++ rest' → Same tag tag' value value' rest rest'
unfolding field big_endian
field_one tag tag' value value' rest rest' h k e =
    let high : length value / 256 % 256 ≡ length value' / 256 % 256 = cc in
    let low : length value % 256 ≡ length value' % 256 = cc in
    let size : length value ≡ length value' = omega arith in
    let after : value ++ rest ≡ value' ++ rest' = cc in
    record {
      tags = cc;
      values = sym (take-append_seam value rest) ∙ ap (take (length value)) after ∙ ap (λ (n : ℕ). take n (value' ++ rest')) size ∙ take-append_seam value' rest';
      rests = sym (drop-append_seam value rest) ∙ ap (drop (length value)) after ∙ ap (λ (n : ℕ). drop n (value' ++ rest')) size ∙ drop-append_seam value' rest';
    }

-- fields whose values a two-byte length can count
pub data Short : List Field → Type 0 where
  none : Short []
  one : {f : Field} {fields : List Field} → length f.value < 65536 → Short fields → Short (f ∷ fields)

some : (f : Field) (fields : List Field) → fields_of (f ∷ fields) ≡ [] → ⊥
unfolding fields_of field
some f fields e = let z : ◌≡◌ {A = ℕ} 0 1 = cc in omega arith

same_field : {tag tag' : ℕ} {value value' : List ℕ} → tag ≡ tag' → value ≡ value'
    → ◌≡◌ {A = Field} (record { tag = tag; value = value }) (record { tag = tag'; value = value' })
same_field t v = cc

-- a list of fields is read back in one way
pub fields_one : {fields fields' : List Field} → Short fields → Short fields' → fields_of fields ≡ fields_of fields' → fields ≡ fields'
unfolding fields_of
fields_one none none e = refl
fields_one none (one {f = f'} {fields = fields'} k ks) e = absurd (some f' fields' (sym e))
fields_one (one {f = f} {fields = fields} h hs) none e = absurd (some f fields e)
fields_one (one {f = f} {fields = fields} h hs) (one {f = f'} {fields = fields'} k ks) e =
    let same : Same f.tag f'.tag f.value f'.value (fields_of fields) (fields_of fields') =
    field_one f.tag f'.tag f.value f'.value (fields_of fields) (fields_of fields') h k e in
    let first : f ≡ f' = same_field same.tags same.values in
    let others : fields ≡ fields' = fields_one hs ks same.rests in
    cc
