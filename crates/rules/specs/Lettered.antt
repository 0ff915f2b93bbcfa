-- The ten lettered cases of document 01 as a table: what the rules give, and what they must give. N = 2 and B = 1 unless said.
use Rattle.std.specs.Prelude.{Bool, true, false, ◌&&◌, List, [], ◌∷◌, ◌++◌, ℕ, ◌*◌, eqb, replicate}
use Rattle.words.specs.Words.{word, block_at, number}
use Rattle.rules.specs.declared.Geometry.{Geometry}
use Rattle.rules.specs.declared.Backup.TheVariants.{A, B}
use Rattle.rules.specs.declared.Phase.{Phase}
use Rattle.rules.specs.declared.Phase.TheVariants.{Running, Writing, Off}
use Rattle.rules.specs.Geometry.{mark_start}
use Rattle.rules.specs.Board.{Board, table_of}
use Rattle.rules.specs.Numbers.{number_of}
use Rattle.rules.specs.Power.{Outcome}
use Rattle.rules.specs.Starts.{registers_in, table_in}
use Rattle.rules.specs.Calls.{Call, load, store, begin, step, format, call}

-- ---- a row of the table: what the rules give, and what document 01 says it must be

pub record Row : Type 0 where
  pub gives : List ℕ
  pub must : List ℕ

infix 10 ◌is◌
abbrev ◌is◌ : List ℕ → List ℕ → Row
gives is must = record { gives = gives; must = must }

unfoldable pub same : List ℕ → List ℕ → Bool
same [] [] = true
same [] (y ∷ ys) = false
same (x ∷ xs) [] = false
same (x ∷ xs) (y ∷ ys) = eqb x y && same xs ys

-- the one test over the whole table
unfoldable pub all_hold : List Row → Bool
unfolding same
all_hold [] = true
all_hold (r ∷ rows) = same r.gives r.must && all_hold rows

-- ---- what a row looks at

-- the number returned
unfoldable pub answer : Outcome → List ℕ
unfolding number_of
answer o = number_of o.number ∷ []

-- the number returned, the words stored, the table word
unfoldable pub answers : Outcome → List ℕ
unfolding number_of
answers o = number_of o.number ∷ o.words ∷ table_of o.board

-- Running is 0, Off is 1, Writing is 2 and its count
unfoldable pub phases : Phase → List ℕ
phases Running = 0 ∷ []
phases Off = 1 ∷ []
phases (Writing count) = 2 ∷ count ∷ []

-- backup B: its registers, its table words; then the mark
unfoldable pub backup_b : Geometry → Outcome → List ℕ
unfolding registers_in table_in word number
backup_b g o = registers_in g o.board.memory B ++ table_in g o.board.memory B ++ (number (word o.board.memory (mark_start g)) ∷ [])

-- ---- the boards of the rows

-- so many words of memory, all zero, with CACHE and table for B = 1, and no sizes recorded
unfoldable pub lent : ℕ → Board
lent n = record {
  memory = replicate (8 * n) 0;
  volatile = record {
    cache = replicate 64 0;
    table = replicate 1 0;
    controller = record { geometry = record { blocks = 0; slots = 0 }; registers = replicate 64 0; finished = A; phase = Off };
  };
}

-- N = 2, B = 1
unfoldable pub sizes21 : Geometry
sizes21 = record { blocks = 2; slots = 1 }

unfoldable pub sizes_n : ℕ → Geometry
sizes_n n = record { blocks = n; slots = 1 }

-- with an allowance that is always enough
unfoldable pub on : Board → Call → Outcome
unfolding call
on board c = call 1000 board c

-- a board of N = 2 and B = 1, formatted with EE
unfoldable pub formatted21 : Outcome
unfolding on lent sizes21
formatted21 = on (lent 43) (format sizes21 238)

-- the calls of f to j, one after the other
unfoldable pub stored_one : Outcome
unfolding on formatted21
stored_one = on formatted21.board (store 1 0 (10 ∷ []))

unfoldable pub begun_once : Outcome
unfolding on stored_one
begun_once = on stored_one.board (begin (replicate 64 7))

unfoldable pub stored_again : Outcome
unfolding on begun_once
stored_again = on begun_once.board (store 1 1 (12 ∷ []))

unfoldable pub stepped_nine : Outcome
unfolding on stored_again
stepped_nine = on stored_again.board (step 9)

unfoldable pub stepped_ten : Outcome
unfolding on stepped_nine
stepped_ten = on stepped_nine.board (step 1)

unfoldable pub begun_twice : Outcome
unfolding on stepped_ten
begun_twice = on stepped_ten.board (begin (replicate 64 8))

-- ---- the table

unfoldable pub lettered : List Row
unfolding on lent sizes21 sizes_n answer answers phases backup_b formatted21 stored_one begun_once stored_again stepped_nine stepped_ten begun_twice all_hold block_at
lettered =
    -- a. Memory length 43 words; 42 or 44: BUFFER
    (answer (on (lent 43) (format sizes21 0)) is (0 ∷ []))
    ∷ (answer (on (lent 42) (format sizes21 0)) is (2 ∷ []))
    ∷ (answer (on (lent 44) (format sizes21 0)) is (2 ∷ []))
    -- b. N = 0: GEOMETRY; 4,096 passes (and 43 words are then too few), 4,097 doesn't
    ∷ (answer (on (lent 43) (format (sizes_n 0) 0)) is (1 ∷ []))
    ∷ (answer (on (lent 43) (format (sizes_n 4096) 0)) is (2 ∷ []))
    ∷ (answer (on (lent 43) (format (sizes_n 4097) 0)) is (1 ∷ []))
    -- c. Offset 63 length 1 passes, length 2: RANGE
    ∷ (answer (on formatted21.board (load 0 63 1)) is (0 ∷ []))
    ∷ (answer (on formatted21.board (load 0 63 2)) is (6 ∷ []))
    -- d. Block 1 passes, block 2: RANGE
    ∷ (answer (on formatted21.board (load 1 0 1)) is (0 ∷ []))
    ∷ (answer (on formatted21.board (load 2 0 1)) is (6 ∷ []))
    -- e. Format stores 27 words
    ∷ (answers formatted21 is (0 ∷ 27 ∷ 0 ∷ []))
    -- f. Store to block 1, just formatted: 8 words, table word 258
    ∷ (answers stored_one is (0 ∷ 8 ∷ 258 ∷ []))
    -- g. Then begin: 0 words, table word 257
    ∷ (answers begun_once is (0 ∷ 0 ∷ 257 ∷ []))
    -- h. Then store to block 0: FULL; to block 1: 0 words, table word 260
    ∷ (answers (on begun_once.board (store 0 0 (11 ∷ []))) is (7 ∷ 0 ∷ 257 ∷ []))
    ∷ (answers stored_again is (0 ∷ 0 ∷ 260 ∷ []))
    -- i. Step with n = 9 leaves Writing (backup B has its registers and its table word, and the mark still names A)
    ∷ (answers stepped_nine is (0 ∷ 9 ∷ 260 ∷ []))
    ∷ (phases stepped_nine.board.volatile.controller.phase is (2 ∷ 9 ∷ []))
    ∷ (backup_b sizes21 stepped_nine is (replicate 64 7 ++ (257 ∷ 3 ∷ [])))
    -- one more word makes Running (and the mark names B)
    ∷ (answers stepped_ten is (0 ∷ 1 ∷ 260 ∷ []))
    ∷ (phases stepped_ten.board.volatile.controller.phase is (0 ∷ []))
    ∷ (backup_b sizes21 stepped_ten is (replicate 64 7 ++ (257 ∷ 2 ∷ [])))
    -- j. Then begin stores 8 words to HOME of block 1 and the table word is 0
    ∷ (answers begun_twice is (0 ∷ 8 ∷ 0 ∷ []))
    ∷ (block_at begun_twice.board.memory 1 is (10 ∷ 12 ∷ replicate 62 238))
    ∷ []
