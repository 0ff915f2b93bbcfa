-- Table words: codes, the free word, lookup, the lowest free slot (document 01, What the board is).
use Rattle.std.specs.Prelude.{◌≡◌, ◌<◌, ◌≤◌, Bool, true, false, ◌&&◌, cond, List, [], ◌∷◌, ℕ, suc, ◌+◌, ◌*◌, ◌/◌, ◌%◌, eqb, Option, Some, None, Result, MatchResult}
use Rattle.rules.specs.declared.State.{State}
use Rattle.rules.specs.declared.State.TheVariants.{Clean, Dirty, Hidden, PreHidden, PreDirty}
use Rattle.rules.specs.declared.codes.NoState.{NoState}
use Rattle.rules.specs.declared.Entry.{Entry}

-- the code of a state
abbrev pub code_of : State → ℕ
code_of Clean = 1
code_of Dirty = 2
code_of Hidden = 3
code_of PreHidden = 4
code_of PreDirty = 5

-- the state that a number stands for, or that number where it stands for none
abbrev pub StateOf : ℕ → Result State NoState → Type 0
StateOf code r = MatchResult r (λ state. code_of state ≡ code) (λ e. (e.0 ≡ code) × (1 ≤ code → 5 < code))

-- a table word is 256 x block + code
unfoldable pub word_of : ℕ → State → ℕ
word_of block state = 256 * block + code_of state

-- the state that a code stands for
unfoldable pub state_for : ℕ → Option State
state_for code =
    cond (eqb code 1) (Some Clean)
    (cond (eqb code 2) (Some Dirty) (cond (eqb code 3) (Some Hidden) (cond (eqb code 4) (Some PreHidden) (cond (eqb code 5) (Some PreDirty) None))))

-- what a table word says: the slot is free, or it names a block and a state, or neither
pub data Says : Type 0 where
  free : Says
  names : ℕ → State → Says
  neither : Says

unfoldable pub says_of : ℕ → Option State → Says
says_of block None = neither
says_of block (Some state) = names block state

unfoldable pub says : ℕ → Says
unfolding says_of state_for
says word = cond (eqb word 0) free (says_of (word / 256) (state_for (word % 256)))

-- ---- lookup: the lowest slot that names the block, with its state, or nothing

-- the entry in a slot, as it is found
abbrev pub entry_at : ℕ → State → Option Entry
entry_at slot state = Some (record { slot = slot; state = state })

unfoldable pub is_nothing : Option Entry → Bool
is_nothing (Some entry) = false
is_nothing None = true

-- what is found in the rest of a table, counted from its start
unfoldable pub one_on : Option Entry → Option Entry
one_on (Some entry) = entry_at (suc entry.slot) entry.state
one_on None = None

unfoldable pub lookup_by : ℕ → Says → Option Entry → Option Entry
unfolding one_on
lookup_by block free rest = one_on rest
lookup_by block (names k state) rest = cond (eqb k block) (entry_at 0 state) (one_on rest)
lookup_by block neither rest = one_on rest

unfoldable pub lookup : ℕ → List ℕ → Option Entry
unfolding lookup_by says
lookup block [] = None
lookup block (word ∷ table) = lookup_by block (says word) (lookup block table)

-- the values of a lookup's answer: the slot and the code of its state, or none
unfoldable pub values_of : Option Entry → List ℕ
values_of (Some entry) = entry.slot ∷ code_of entry.state ∷ []
values_of None = []

-- ---- the lowest free slot, or none

unfoldable pub slot_on : Option ℕ → Option ℕ
slot_on None = None
slot_on (Some slot) = Some (suc slot)

unfoldable pub free_by : Says → Option ℕ → Option ℕ
unfolding slot_on
free_by free rest = Some 0
free_by (names k state) rest = slot_on rest
free_by neither rest = slot_on rest

unfoldable pub lowest_free : List ℕ → Option ℕ
unfolding free_by says
lowest_free [] = None
lowest_free (word ∷ table) = free_by (says word) (lowest_free table)

-- ---- no block twice

unfoldable pub new_to : List ℕ → Says → Bool
unfolding lookup is_nothing
new_to table free = true
new_to table (names k state) = is_nothing (lookup k table)
new_to table neither = true

unfoldable pub distinct : List ℕ → Bool
unfolding new_to says
distinct [] = true
distinct (word ∷ table) = new_to table (says word) && distinct table

-- ---- a table word changed: its entry takes the state given for its state, or goes free

unfoldable pub entry_or : ℕ → Option State → ℕ
unfolding word_of
entry_or block None = 0
entry_or block (Some state) = word_of block state

unfoldable pub changed_by : (State → Option State) → Says → ℕ
unfolding entry_or
changed_by next free = 0
changed_by next (names k state) = entry_or k (next state)
changed_by next neither = 0

unfoldable pub changed : (State → Option State) → ℕ → ℕ
unfolding changed_by says
changed next word = changed_by next (says word)

-- every word passes a test
unfoldable pub every : (ℕ → Bool) → List ℕ → Bool
every test [] = true
every test (word ∷ table) = test word && every test table
