-- Slots come free at the begin after a sweep, and are taken again.
use mathlib.Core.Path.{◌≡◌, refl, sym, ap, ◌∙◌, subst}
use mathlib.Core.Logic.{◌≢◌, ◌⊎◌, inl, inr}
use mathlib.Core.List.{List, [], ◌∷◌, ◌++◌, map}
use Prim.Native.Nat.{ℕ, zero, suc, ◌≤◌, ◌<◌}
use native.Mathlib.Omega.{arith}
use native.Mathlib.Nat.{not-suc-le-zero}
use native.Mathlib.Decide.{dec_lt}
use lib.ListN.{length, get_or, set, replicate, length-set, length-map}
use Rattle.std.specs.Prelude.{Option, Some, None}
use Rattle.words.proofs.All.{All, done, also}
use Rattle.rules.specs.declared.Phase.{Phase}
use Rattle.rules.specs.declared.Phase.TheVariants.{Writing}
use Rattle.rules.specs.declared.State.{State}
use Rattle.rules.specs.declared.State.TheVariants.{Clean, Dirty, Hidden, PreHidden, PreDirty}
use Rattle.rules.specs.declared.Entry.{Entry}
use Rattle.rules.specs.declared.Place.TheVariants.{Cache}
use Rattle.rules.specs.TableWords.{word_of, Says, free, names, neither, says, lookup, lowest_free, entry_or, changed_by, changed}
use Rattle.rules.specs.Board.{Board, phase_of, table_of}
use Rattle.rules.specs.Numbers.{number_of, is_writing}
use Rattle.rules.specs.Power.{Outcome}
use Rattle.rules.specs.Loads.{load_number}
use Rattle.rules.specs.Stores.{to, stores, move_in, slot_for}
use Rattle.rules.specs.Checkpoints.{begun, begin_number, begin_plan}
use Rattle.rules.specs.Sweeps.{CleanEntry, lowest_clean, hidden}
use Rattle.rules.specs.Calls.{Call, load, peek, store, begin, step, sweep, plan, call}
use Rattle.rules.specs.Promises.{NoEntry, StoreLeaves, Leaves, StatesMove}
use Rattle.rules.specs.SweepPromises.{Asked, AllDone, no_more, and_call, Between, a_load, a_peek, a_step, a_sweep, AllBetween, and_then, EmptyTable, TakesSlot, TakenAgain}
use Rattle.rules.proofs.Clashes.{false_true}
use Rattle.rules.proofs.TableWordLaws.{says_word, says_zero, names_word, free_word}
use Rattle.rules.proofs.Finding.{finds_lookup, finds_nothing}
use Rattle.rules.proofs.Changing.{changed_zero, changed_entry, changed_get, all_set}
use Rattle.rules.proofs.FreeSlot.{Vacant, VacantAt, vacant, vacant_at, vacant_below}
use Rattle.rules.proofs.Moves.{accepted_whole, states_move}
use Rattle.rules.proofs.RoomForStore.{store_accepted}
use Rattle.rules.proofs.SweepMoves.{swept_by, swept_table, CleanOrNot, is_clean_entry, is_not, clean_or_not, sweep_table}

-- ---- words that the next begin frees

-- the next begin frees the slot
unfoldable Leaving : ℕ → Type 0
Leaving word = changed begun word ≡ 0

-- or its entry is clean, and a sweep must come before
unfoldable Quiet : ℕ → Type 0
unfolding Leaving
Quiet word = Leaving word ⊎ ((block : ℕ) × (says word ≡ names block Clean))

hidden_leaves : (block : ℕ) → Leaving (word_of block Hidden)
unfolding Leaving begun entry_or
hidden_leaves block = changed_entry begun (word_of block Hidden) block Hidden (says_word block Hidden)

hidden_quiet : (block : ℕ) → Quiet (word_of block Hidden)
unfolding Quiet
hidden_quiet block = inl (hidden_leaves block)

begun_quiet : (word : ℕ) → Quiet (changed begun word)
unfolding Quiet Leaving changed changed_by begun entry_or
begun_quiet word = go (says word)
  where
    go : (x : Says) → Quiet (changed_by begun x)
    go free = inl (changed_zero begun)
    go neither = inl (changed_zero begun)
    go (names block Clean) = inr (block, says_word block Clean)
    go (names block Dirty) = inr (block, says_word block Clean)
    go (names block Hidden) = inl (changed_zero begun)
    go (names block PreHidden) = inl (changed_zero begun)
    go (names block PreDirty) = inr (block, says_word block Clean)

-- a begin leaves no others
all_quiet : (table : List ℕ) → All Quiet (map (changed begun) table)
all_quiet [] = done
all_quiet (word ∷ table) = also (begun_quiet word) (all_quiet table)

-- a sweep of all leaves no clean entry
all_leaving : (limit : ℕ) (table : List ℕ) → length table ≤ limit → All Quiet table → All Leaving (swept_table limit table)
unfolding swept_table swept_by Quiet
all_leaving zero [] h a = done
all_leaving zero (word ∷ table) h a = absurd (not-suc-le-zero h)
all_leaving (suc limit) [] h a = done
all_leaving (suc limit) (word ∷ table) h (also a az) =
    go (says word) refl (clean_or_not (says word)) a (all_leaving (suc limit) table (omega arith) az) (all_leaving limit table (omega arith) az)
  where
    go : (x : Says) → says word ≡ x → CleanOrNot x → Quiet word → All Leaving (swept_table (suc limit) table) → All Leaving (swept_table limit table)
        → All Leaving (swept_by x word (swept_table (suc limit) table) (swept_table limit table))
    go x q (is_clean_entry block) a as_many fewer = also (hidden_leaves block) fewer
    go x q (is_not over) (inl leaves) as_many fewer = subst (All Leaving) (sym (over.stays word (swept_table (suc limit) table) (swept_table limit table))) (also leaves as_many)
    go x q (is_not over) (inr clean) as_many fewer = absurd (over.unclean clean.0 (sym q ∙ clean.1))

-- and the begin after it leaves no entry at all
all_free : (table : List ℕ) → All Leaving table → map (changed begun) table ≡ replicate (length table) 0
unfolding Leaving
all_free [] done = refl
all_free (word ∷ table) (also a az) = rw (a, all_free table az)

-- ---- runs of calls

-- a board's table: so many slots, with words of one kind
record Holds (P : ℕ → Type 0) (slots : ℕ) (board : Board) : Type 0 where
  pub count : length (table_of board) ≡ slots
  pub words : All P (table_of board)

same_table : {P : ℕ → Type 0} {slots : ℕ} {board after : Board} → table_of after ≡ table_of board → Holds P slots board → Holds P slots after
same_table {P} e h = record { count = ap length e ∙ h.count; words = subst (All P) (sym e) h.words }

hidden_count : (entries : List CleanEntry) (table : List ℕ) → length (hidden entries table) ≡ length table
unfolding hidden
hidden_count [] table = refl
hidden_count (entry ∷ entries) table = hidden_count entries _ ∙ length-set table entry.slot (word_of entry.block Hidden)

pub swept_count : (p limit : ℕ) (board : Board) → number_of (call p board (sweep limit)).number ≡ 0
    → length (table_of (call p board (sweep limit)).board) ≡ length (table_of board)
unfolding StatesMove Leaves
swept_count p limit board e = ap length ((states_move p board (sweep limit)).0 e) ∙ hidden_count (lowest_clean limit (table_of board)) (table_of board)

hidden_words : {P : ℕ → Type 0} → ((block : ℕ) → P (word_of block Hidden)) → (entries : List CleanEntry) (table : List ℕ) → All P table → All P (hidden entries table)
unfolding hidden
hidden_words kind [] table a = a
hidden_words kind (entry ∷ entries) table a = hidden_words kind entries _ (all_set entry.slot (word_of entry.block Hidden) a (kind entry.block))

-- the calls between keep a kind that has the hidden words
module _ (P : ℕ → Type 0) (kind : (block : ℕ) → P (word_of block Hidden)) (slots : ℕ) where
  one_between : (p : ℕ) (board : Board) (c : Call) → Between c → number_of (call p board c).number ≡ 0 → Holds P slots board → Holds P slots (call p board c).board
  unfolding StatesMove Leaves
  one_between p board (load block offset len) a_load e h = same_table ((states_move p board (load block offset len)).0 e) h
  one_between p board (peek block) a_peek e h = same_table ((states_move p board (peek block)).0 e) h
  one_between p board (step n) a_step e h = same_table ((states_move p board (step n)).0 e) h
  one_between p board (sweep limit) a_sweep e h =
      record {
        count = swept_count p limit board e ∙ h.count;
        words = subst (All P) (sym ((states_move p board (sweep limit)).0 e)) (hidden_words kind (lowest_clean limit (table_of board)) (table_of board) h.words);
      }
  one_between p board (store _ _ _) x6 e h = elim x6 [ ]
  one_between p board (begin _) x5 e h = elim x5 [ ]
  one_between p board (Rattle.rules.specs.Calls.format _ _) x7 e h = elim x7 [ ]
  one_between p board (Rattle.rules.specs.Calls.recover _) x7 e h = elim x7 [ ]

  all_between : {board after : Board} (asked : List Asked) → AllBetween asked → AllDone board asked after → Holds P slots board → Holds P slots after
  all_between [] no_more no_more h = h
  all_between {board} (a ∷ asked) (and_then b bs) (and_call e d) h = all_between {board = (call a.p board a.c).board} asked bs d (one_between a.p board a.c b e h)

-- a run of calls, parted
record Parted (board : Board) (first second : List Asked) (after : Board) : Type 0 where
  pub middle : Board
  pub before : AllDone board first middle
  pub behind : AllDone middle second after

parted : {board after : Board} (first second : List Asked) → AllDone board (first ++ second) after → Parted board first second after
parted {board} [] second d = record { middle = board; before = no_more; behind = d }
parted {board} (a ∷ first) second (and_call e d) =
    let r = parted {board = (call a.p board a.c).board} first second d in record { middle = r.middle; before = and_call e r.before; behind = r.behind }

-- ---- the table is empty after the second begin

begin_table : (p : ℕ) (board : Board) (registers : List ℕ) → number_of (call p board (begin registers)).number ≡ 0
    → table_of (call p board (begin registers)).board ≡ map (changed begun) (table_of board)
unfolding StatesMove Leaves
begin_table p board registers e = (states_move p board (begin registers)).0 e

pub begin_count : (p : ℕ) (board : Board) (registers : List ℕ) → number_of (call p board (begin registers)).number ≡ 0
    → length (table_of (call p board (begin registers)).board) ≡ length (table_of board)
begin_count p board registers e = ap length (begin_table p board registers e) ∙ length-map (table_of board) (changed begun)

pub begin_writing : (p : ℕ) (board : Board) (registers : List ℕ) → number_of (call p board (begin registers)).number ≡ 0
    → phase_of (call p board (begin registers)).board ≡ Writing 0
unfolding call plan begin_plan
begin_writing p board registers e = ap (λ (out : Outcome). phase_of out.board) (accepted_whole p board (begin_number board registers) _ _ [] e).1

first_begin : (p slots : ℕ) (board : Board) (registers : List ℕ) → length (table_of board) ≡ slots → number_of (call p board (begin registers)).number ≡ 0
    → Holds Quiet slots (call p board (begin registers)).board
first_begin p slots board registers size e =
    record { count = begin_count p board registers e ∙ size; words = subst (All Quiet) (sym (begin_table p board registers e)) (all_quiet (table_of board)) }

second_sweep : {board after : Board} (p limit slots : ℕ) (rest : List Asked) → slots ≤ limit → AllBetween rest → AllDone board (record { p = p; c = sweep limit } ∷ rest) after
    → Holds Quiet slots board → Holds Leaving slots after
second_sweep {board} p limit slots rest few between (and_call e run) h =
    let left = sweep_table p limit board e in
    all_between Leaving hidden_leaves slots rest between run (record {
      count = (one_between Quiet hidden_quiet slots p board (sweep limit) a_sweep e h).count;
      words = subst (All Leaving) (sym left) (all_leaving limit (table_of board) (omega (arith, h.count)) h.words);
    })

second_begin : {board after : Board} (p slots : ℕ) (registers : List ℕ) → AllDone board (record { p = p; c = begin registers } ∷ []) after → Holds Leaving slots board
    → table_of after ≡ replicate slots 0
second_begin {board} p slots registers (and_call e run) h = ended run
  where
    ended : {after : Board} → AllDone (call p board (begin registers)).board [] after → table_of after ≡ replicate slots 0
    ended no_more = begin_table p board registers e ∙ all_free (table_of board) h.words ∙ ap (λ (n : ℕ). replicate n 0) h.count

pub empty_table : EmptyTable
unfolding EmptyTable
empty_table board after p₁ p₂ p₃ p₄ all₁ all₂ registers₁ registers₂ finish rest between₁ between₂ h₁ h₂ (and_call e₁ (and_call e₂ run)) =
    let slots = length (table_of board) in
    let whole = parted (finish ++ record { p = p₃; c = sweep all₂ } ∷ rest) (record { p = p₄; c = begin registers₂ } ∷ []) run in
    let part = parted finish (record { p = p₃; c = sweep all₂ } ∷ rest) whole.before in
    let finished = all_between Quiet hidden_quiet slots finish between₁ part.before (first_begin p₂ slots _ registers₁ (swept_count p₁ all₁ board e₁) e₂) in
    second_begin p₄ slots registers₂ whole.behind (second_sweep p₃ all₂ slots rest h₂ between₂ part.behind finished)

-- ---- the slot is taken again

no_entry_found : (block : ℕ) (table : List ℕ) → NoEntry block table → lookup block table ≡ None
unfolding NoEntry
no_entry_found block table none_there =
    finds_lookup (finds_nothing block table (λ i h. record { never = λ state e. none_there i state h (names_word (get_or table i 0) block state e) }))

-- a free slot that a store takes while Writing
module _ (board : Board) (slot : ℕ) (inside : slot < length (table_of board)) (room : get_or (table_of board) slot 0 ≡ 0)
    (block offset : ℕ) (bytes : List ℕ) (checked : number_of (load_number board block offset (length bytes)) ≡ 0) where
  abbrev table : List ℕ
  table = table_of board

  store_takes : (q count : ℕ) → phase_of board ≡ Writing count → TakesSlot slot board block (call q board (store block offset bytes))
  unfolding StatesMove Leaves slot_for move_in stores
  store_takes q count writing = record { accepted = accepted; taken = taken }
    where
      accepted : number_of (call q board (store block offset bytes)).number ≡ 0
      accepted = store_accepted board slot inside room block offset bytes checked q (λ idle. absurd (false_true (sym idle ∙ ap is_writing writing)))

      left : StoreLeaves board block offset bytes (call q board (store block offset bytes)).board
      left = (states_move q board (store block offset bytes)).0 accepted

      taken : NoEntry block table
          → (lowest : ℕ)
          × (lowest ≤ slot)
          × (get_or table lowest 0 ≡ 0)
          × ((lower : ℕ) → lower < lowest → get_or table lower 0 ≢ 0)
          × (table_of (call q board (store block offset bytes)).board ≡ set table lowest (word_of block PreDirty))
      taken none_there =
          let nothing_found = no_entry_found block table none_there in
          let lowest = left.slot in
          let is-lowest : lowest_free table ≡ Some lowest = ap (λ (r : Option Entry). slot_for r (lowest_free table)) (sym nothing_found) ∙ left.taken in
          let v : Vacant table lowest = subst (VacantAt table) is-lowest (vacant table) in
          let moves : to Cache PreDirty ≡ to left.place left.state =
          ap (λ (phase : Phase). move_in phase (stores None)) (sym writing) ∙ ap (λ (r : Option Entry). move_in (phase_of board) (stores r)) (sym nothing_found) ∙ left.row
          in
          let state : left.state ≡ PreDirty = cc in
          let low : lowest ≤ slot = elim (dec_lt slot lowest) [ yes h ↦ absurd (vacant_below v slot h (ap says room ∙ says_zero)) | no h ↦ omega arith ] in (
            lowest,
            low,
            free_word (get_or table lowest 0) (vacant_at v),
            λ lower h e. vacant_below v lower h (ap says e ∙ says_zero),
            left.table ∙ ap (λ (s : State). set table lowest (word_of block s)) state,
          )

pub taken_again : TakenAgain
unfolding TakenAgain Leaving
taken_again p q board registers slot named inside is_hidden e = (room, λ block offset bytes checked. store_takes after slot inside' room block offset bytes checked q 0 (begin_writing p board registers e))
  where
    after : Board
    after = (call p board (begin registers)).board

    inside' : slot < length (table_of after)
    inside' = subst (λ (n : ℕ). slot < n) (sym (begin_count p board registers e)) inside

    room : get_or (table_of after) slot 0 ≡ 0
    room =
        ap (λ (table : List ℕ). get_or table slot 0) (begin_table p board registers e)
        ∙ changed_get begun (table_of board) slot
        ∙ ap (changed begun) is_hidden
        ∙ hidden_leaves named
