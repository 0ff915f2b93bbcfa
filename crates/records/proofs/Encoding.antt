-- The encoding of a record: the bytes that the code lays, and that no two records have the same.
use mathlib.Core.Path.{◌≡◌, refl, sym, ap, ◌∙◌}
use mathlib.Core.Bool.{Bool, true, false, cond}
use mathlib.Core.List.{List, ◌++◌}
use Prim.Native.Nat.{ℕ, ◌+◌, ◌-◌, ◌≤◌, ◌<◌}
use native.Mathlib.Omega.{arith}
use lib.Dec.{eqb}
use lib.ListN.{length, drop, replicate, length-append, length-replicate}
use Rattle.std.proofs.lemmas.List.{drop-replicate}
use Rattle.lines.specs.Puts.{Puts}
use Rattle.lines.proofs.Places.{puts_parts}
use Rattle.fields.specs.Fields.{big_endian, big_number, field, fields_of}
use Rattle.fields.proofs.Numbers.{number_of_bytes}
use Rattle.records.specs.declared.Wire.{Wire}
use Rattle.records.specs.declared.Record.{Record}
use Rattle.std.specs.Prelude.{Option, Some, None}
use Rattle.records.specs.Records.{flag, perhaps, fields_in, encoded, IsRecord, laid, written}
use Rattle.records.specs.Supposed.{test_at, supposed}

-- ---- what the code lays

fit : (current : ℕ) (latch : Bool) (test : Option Bool) → length (fields_of (fields_in (record { current = current; latch = latch; test = test }))) ≤ 64
unfolding fields_in perhaps flag fields_of field big_endian
fit current latch None = omega arith
fit current latch (Some test) = omega arith

pub fields_fit : (says : Record) → length (fields_of (fields_in says)) ≤ 64
fields_fit says = fit says.current says.latch says.test

-- fields put at the start of a block of zeros
pub puts_encoded : (says : Record) {block : List ℕ} {r : ℕ} → length (fields_of (fields_in says)) ≤ 64
    → Puts (fields_of (fields_in says)) 0 (replicate 64 0) block r → block ≡ encoded says
unfolding encoded
puts_encoded says {block} {r} h p =
    let size : r ≡ length (fields_of (fields_in says)) = omega (arith, p.after) in
    puts_parts p (omega (arith, h))
    ∙ ap (λ (k : ℕ). fields_of (fields_in says) ++ drop k (replicate 64 0)) size
    ∙ ap (λ (rest : List ℕ). fields_of (fields_in says) ++ rest) (drop-replicate (length (fields_of (fields_in says))) 64 0)

pub encoded_whole : (says : Record) → length (encoded says) ≡ 64
unfolding encoded
encoded_whole says =
    length-append (fields_of (fields_in says)) (replicate (64 - length (fields_of (fields_in says))) 0)
    ∙ ap (λ (k : ℕ). length (fields_of (fields_in says)) + k) (length-replicate (64 - length (fields_of (fields_in says))) 0)
    ∙ omega (arith, fields_fit says)

pub written_whole : (wire : Wire) → length (written wire) ≡ 64
unfolding written
written_whole wire = encoded_whole (laid wire)

-- ---- a record is read back from its encoding

flag_back : (b : Bool) → eqb (cond b 1 0) 1 ≡ b
flag_back true = refl
flag_back false = refl

same_record : {current current' : ℕ} {latch latch' : Bool} {test test' : Option Bool} → current ≡ current' → latch ≡ latch' → test ≡ test'
    → ◌≡◌ {A = Record} (record { current = current; latch = latch; test = test }) (record { current = current'; latch = latch'; test = test' })
same_record c l t = cc

read_back : (current : ℕ) (latch : Bool) (test : Option Bool) → current < 65536
    → supposed (encoded (record { current = current; latch = latch; test = test })) ≡ record { current = current; latch = latch; test = test }
unfolding supposed test_at encoded fields_in perhaps flag fields_of field big_endian big_number
read_back current latch None h = same_record (number_of_bytes 2 current h) (flag_back latch) refl
read_back current latch (Some test) h = same_record (number_of_bytes 2 current h) (flag_back latch) (ap Some (flag_back test))

pub supposed_encoded : (says : Record) → says.current < 65536 → supposed (encoded says) ≡ says
supposed_encoded says h = read_back says.current says.latch says.test h

-- a block is the encoding of the record that it is supposed to be, or of none
pub is_supposed : {block : List ℕ} {says : Record} → IsRecord block says → supposed block ≡ says
is_supposed {block} {says} is = ap supposed is.bytes ∙ supposed_encoded says is.two_bytes

-- one block, one record
pub record_one : {block : List ℕ} {one two : Record} → IsRecord block one → IsRecord block two → one ≡ two
record_one a b = sym (is_supposed a) ∙ is_supposed b
