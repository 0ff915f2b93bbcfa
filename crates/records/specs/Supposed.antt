-- The only record whose encoding a block can be: read off the places where the fields stand. For the code only.
use Rattle.std.specs.Prelude.{Bool, cond, List, [], ◌∷◌, ℕ, eqb, get_or, Option, Some, None}
use Rattle.fields.specs.Fields.{big_number}
use Rattle.records.specs.declared.Record.{Record}

unfoldable pub test_at : List ℕ → Option Bool
test_at block = cond (eqb (get_or block 9 0) 3) (Some (eqb (get_or block 12 0) 1)) None

unfoldable pub supposed : List ℕ → Record
unfolding big_number test_at
supposed block = record {
  current = big_number (get_or block 3 0 ∷ (get_or block 4 0 ∷ []));
  latch = eqb (get_or block 8 0) 1;
  test = test_at block;
}
