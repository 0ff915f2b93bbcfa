-- The document's example: its eleven fields print its eleven lines (document 01, The bench trace), the tenth as document 02, No. 2, has it.
use mathlib.Core.Path.{◌≡◌, refl}
use mathlib.Core.List.{List, [], ◌∷◌, ◌++◌}
use Prim.Native.Nat.{ℕ}
use Rattle.fields.specs.Fields.{Field, big_number}
use Rattle.lines.specs.Lines.{line, decimal, digits, hex_bytes, hex_byte, hex_digit}
use Rattle.rules.specs.Starts.{registers_given}
use Rattle.rules.specs.Calls.{call}
use Rattle.asking.specs.Asking.{number_at, sized, asked_format, asked_store, asked_load, asked_begin, asked_step, asked_allow, asked_recover, asked}
use Rattle.lending.specs.Lending.{fits, lent_memory, lent_cache, lent_table, restored, called}
use Rattle.trace.specs.Trace.{words_of, fresh, shown, register_text, shown_register, ends, turned_by, turned, printed}

abbrev field : ℕ → List ℕ → Field
field tag value = record { tag = tag; value = value }

abbrev input : List Field
input =
    field 1 (0 ∷ 2 ∷ 0 ∷ 1 ∷ 238 ∷ []) ∷
    field 2 (0 ∷ 1 ∷ 0 ∷ 10 ∷ []) ∷
    field 4 (7 ∷ []) ∷
    field 2 (0 ∷ 0 ∷ 0 ∷ 11 ∷ []) ∷
    field 2 (0 ∷ 1 ∷ 0 ∷ 12 ∷ []) ∷
    field 5 (0 ∷ 9 ∷ []) ∷
    field 6 (0 ∷ 0 ∷ []) ∷
    field 5 (0 ∷ 1 ∷ []) ∷
    field 3 (0 ∷ 1 ∷ 0 ∷ 2 ∷ []) ∷
    field 7 [] ∷
    field 3 (0 ∷ 1 ∷ 0 ∷ 2 ∷ []) ∷
    []

abbrev output : List ℕ
output =
    (49 ∷ 32 ∷ 48 ∷ 32 ∷ 50 ∷ 55 ∷ 10 ∷ []) ++ (
    (50 ∷ 32 ∷ 48 ∷ 32 ∷ 56 ∷ 10 ∷ []) ++ (
    (51 ∷ 32 ∷ 48 ∷ 32 ∷ 48 ∷ 10 ∷ []) ++ (
    (52 ∷ 32 ∷ 55 ∷ 32 ∷ 48 ∷ 10 ∷ []) ++ (
    (53 ∷ 32 ∷ 48 ∷ 32 ∷ 48 ∷ 10 ∷ []) ++ (
    (54 ∷ 32 ∷ 48 ∷ 32 ∷ 57 ∷ 10 ∷ []) ++ (
    (55 ∷ 32 ∷ 48 ∷ 32 ∷ 48 ∷ 10 ∷ []) ++ (
    (56 ∷ 32 ∷ 50 ∷ 48 ∷ 32 ∷ 48 ∷ 10 ∷ []) ++ (
    (57 ∷ 32 ∷ 52 ∷ 32 ∷ 48 ∷ 10 ∷ []) ++ (
    (49 ∷ 48 ∷ 32 ∷ 48 ∷ 32 ∷ 48 ∷ 32 ∷ 45 ∷ 45 ∷ 10 ∷ []) ++ (
    (49 ∷ 49 ∷ 32 ∷ 48 ∷ 32 ∷ 48 ∷ 32 ∷ 101 ∷ 101 ∷ 101 ∷ 101 ∷ 10 ∷ [])))))))))))

pub whole_output : printed fresh 1 input ≡ output
unfolding printed turned turned_by ends shown register_text shown_register registers_given fresh words_of called restored lent_memory lent_cache lent_table fits asked asked_format asked_store asked_load asked_begin asked_step asked_allow asked_recover sized number_at big_number line decimal digits hex_bytes hex_byte hex_digit call
whole_output = refl
