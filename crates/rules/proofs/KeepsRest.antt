-- Loads and peeks keep the invariant, a recovery sets it up from a finished backup, and a format too.
use mathlib.Core.Path.{◌≡◌, refl, sym, ap, ◌∙◌, subst}
use mathlib.Core.Bool.{true, false}
use mathlib.Core.List.{List, [], ◌∷◌, ◌++◌, map, append_assoc}
use Prim.Native.Nat.{ℕ, zero, suc, ◌+◌, ◌*◌, ◌<◌}
use native.Mathlib.Omega.{arith}
use native.Mathlib.Nat.{not-suc-le-zero}
use lib.Dec.{ltb}
use lib.ListN.{length, get_or, take, replicate, length-append}
use lib.Seq.{take-append-le, take-append-add}
use Rattle.std.specs.Prelude.{Option, Some, None}
use Rattle.words.specs.Words.{word, words, block_at, Store, lay, fill_to, number, numbers_to, numbers}
use Rattle.words.proofs.All.{All, done, also, all_take, all_append, all_map}
use Rattle.words.proofs.Lists.{Fit, lay-length, lay-append, Misses, untouched}
use Rattle.words.proofs.Rising.{Held, Rising, rising_append, rising_held, Below, in_below}
use Rattle.words.proofs.Makers.{Laid, fill_to_laid, numbers_to_laid, held_number}
use Rattle.words.proofs.Fills.{held_fill, part_filled, numbers_filled}
use Rattle.rules.specs.declared.Geometry.{Geometry}
use Rattle.rules.specs.declared.Backup.{Backup}
use Rattle.rules.specs.declared.Backup.TheVariants.{A}
use Rattle.rules.specs.declared.Phase.TheVariants.{Running}
use Rattle.rules.specs.declared.State.{State}
use Rattle.rules.specs.declared.State.TheVariants.{Clean, Dirty, Hidden, PreHidden, PreDirty}
use Rattle.rules.specs.declared.Entry.{Entry}
use Rattle.rules.specs.declared.Number.{Number}
use Rattle.rules.specs.declared.Number.TheVariants as No
use Rattle.rules.specs.Geometry.{home_start, home_words, backup_start, backup_words, mark_start, memory_words}
use Rattle.rules.specs.TableWords.{Says, free, names, neither, says, one_on, lookup_by, lookup, new_to, distinct, entry_or, changed_by, changed, every}
use Rattle.rules.specs.Board.{Board, sizes, cache_of}
use Rattle.rules.specs.Numbers.{number_of, ◌⇒◌, first_of, outside, allows, well_said, well_formed}
use Rattle.rules.specs.Power.{Plan, carry, guard}
use Rattle.rules.specs.Loads.{spot_in, spot_of, block_in, visible, load_number, load_plan, peek_number, peek_plan}
use Rattle.rules.specs.Starts.{format_mark, format_list, finished_by, has_registers, finished_in, saved_registers, handed_out, recorded, table_in, only_clean, sound, no_checkpoint, unsound, recover_number, recover_from, recover_plan, saved_by, saved_block}
use Rattle.rules.specs.Calls.{Call, load, peek, recover}
use Rattle.rules.specs.PlainMachine.{Picture, Plain, formatted, did}
use Rattle.rules.proofs.Clashes.{false_true, none_some, and_left, and_right}
use Rattle.rules.proofs.TableWordLaws.{names_word, free_word}
use Rattle.rules.proofs.Finding.{Finds, finds, found_at, found_lt}
use Rattle.rules.proofs.Apart.{distinct_apart}
use Rattle.rules.proofs.Changing.{every_all, all_get}
use Rattle.rules.proofs.Saving.{Head, head_from, head_of, registers_by, Kept, kept_length}
use Rattle.rules.proofs.Checked.{sizes_passed, Lent, lent_exact, same_sizes}
use Rattle.rules.proofs.Invariant.{standing, formed_running, Live, mode_running, Inv, Keeps, k_carry, no_mark, note_unmarked, guarded}
use Rattle.rules.proofs.KeepsStep.{all_split}

-- ---- a call that stores nothing and leaves the volatile side

quiet : (board : Board) (plain : Plain) (c : Call) (gives : List ℕ) → did plain c 0 ≡ plain → Inv board plain → Keeps board plain c (carry [] board.volatile gives)
unfolding lay
quiet board plain c gives e v =
    k_carry refl (subst (Inv board) (sym (note_unmarked (sizes board) plain c 0 [] (no_mark (sizes board) done) ∙ e)) v) (λ p h. absurd (not-suc-le-zero h))

pub load_keeps : (board : Board) (plain : Plain) → Inv board plain → (block offset len : ℕ)
    → Keeps board plain (load block offset len) (load_plan board block offset len)
unfolding load_plan did
load_keeps board plain v block offset len = guarded (load_number board block offset len) (λ e. quiet board plain (load block offset len) _ refl v)

pub peek_keeps : (board : Board) (plain : Plain) → Inv board plain → (block : ℕ) → Keeps board plain (peek block) (peek_plan board block)
unfolding peek_plan did
peek_keeps board plain v block = guarded (peek_number board block) (λ e. quiet board plain (peek block) _ refl v)

-- ---- a saved table shows what it saves

clean_state : (state : State) → only_clean state ≡ true → state ≡ Clean
unfolding only_clean
clean_state Clean e = refl
clean_state Dirty e = absurd (false_true e)
clean_state Hidden e = absurd (false_true e)
clean_state PreHidden e = absurd (false_true e)
clean_state PreDirty e = absurd (false_true e)

clean_named : (g : Geometry) (w block : ℕ) (state : State) → well_formed only_clean g w ≡ true → says w ≡ names block state → state ≡ Clean
unfolding well_formed well_said
clean_named g w block state e q = clean_state state (and_right (ltb block g.blocks) (only_clean state) (ap (well_said only_clean g) (sym q) ∙ e))

-- behind a clean word stands the word itself
clean_stands : (g : Geometry) (w : ℕ) → well_formed only_clean g w ≡ true → changed standing w ≡ w
unfolding well_formed well_said changed changed_by standing entry_or
clean_stands g w e = go (says w) refl e
  where
    go : (x : Says) → says w ≡ x → well_said only_clean g x ≡ true → changed_by standing x ≡ w
    go free q h = sym (free_word w q)
    go neither q h = absurd (false_true h)
    go (names block state) q h =
        let z : state ≡ Clean = clean_state state (and_right (ltb block g.blocks) (only_clean state) h) in
        ap (λ (s : State). entry_or block (standing s)) z ∙ sym (names_word w block Clean (q ∙ ap (names block) z))

clean_table : (g : Geometry) {table : List ℕ} → All (λ w. well_formed only_clean g w ≡ true) table → map (changed standing) table ≡ table
clean_table g done = refl
clean_table g (also {x = w} a az) = rw (clean_stands g w a, clean_table g az)

module _ (g : Geometry) (memory cache table : List ℕ) (good : sound g table ≡ true) where
  cleans : All (λ w. well_formed only_clean g w ≡ true) table
  unfolding sound
  cleans = every_all (well_formed only_clean g) table (and_left (every (well_formed only_clean g) table) (distinct table) good)

  pub sound_live : Live g (allows Running) memory cache table (λ block. block_at memory (saved_block g table block))
  unfolding visible saved_block saved_by spot_of spot_in block_in sound
  sound_live = record {
    formed = all_map (formed_running only_clean g) cleans;
    apart = distinct_apart table (and_right (every (well_formed only_clean g) table) (distinct table) good);
    shows = λ block h. go block (lookup block table) (finds block table);
  }
    where
      go : (block : ℕ) (r : Option Entry) → Finds block table r → block_in memory cache (spot_of g block r) ≡ block_at memory (saved_by g block r)
      go block None l = refl
      go block (Some entry) l =
          rw (clean_named g (get_or table entry.slot 0) block entry.state (all_get entry.slot cleans (found_lt l)) (found_at l))

  pub sound_stands : map (changed standing) table ≡ table
  sound_stands = clean_table g cleans

-- ---- a recovery

abbrev pub recovered : Geometry → List ℕ → List ℕ → Backup → Option (List ℕ) → List ℕ → Board
recovered g memory cache backup registers table = record {
  memory = memory;
  volatile = record { cache = cache; table = table; controller = record { geometry = g; registers = recorded registers; finished = backup; phase = Running } };
}

-- from a memory with a finished backup a recovery goes through, whatever the volatile memory holds
module _ (g : Geometry) (board : Board) {x : Backup} {registers : Option (List ℕ)} {table : List ℕ} {picture : Picture} (k : Kept g board.memory x registers table picture) where
  abbrev goal : Plan
  goal = carry [] (recovered g board.memory (cache_of board) x registers table).volatile (handed_out registers)

  pub recover_from_lem : recover_from board g (finished_in g board.memory) ≡ goal
  unfolding recover_from head_of head_from
  recover_from_lem = go (finished_in g board.memory) k.reads
    where
      go : (o : Option Backup) → head_from g board.memory o ≡ record { finished = Some x; registers = registers; table = table } → recover_from board g o ≡ goal
      go None e = absurd (none_some x (ap (λ (h : Head). h.finished) e))
      go (Some y) e =
          let ey : y ≡ x = (let w : Some y ≡ Some x = ap (λ (h : Head). h.finished) e in cc) in
          let er : saved_registers g board.memory y ≡ registers = ap (λ (h : Head). h.registers) e in
          let et : table_in g board.memory y ≡ table = ap (λ (h : Head). h.table) e in
          cc

  recover_number_lem : outside g ≡ false → Lent g board → recover_number board g (finished_in g board.memory) ≡ No.Done
  unfolding recover_number no_checkpoint unsound head_of head_from first_of
  recover_number_lem f l = go (finished_in g board.memory) k.reads
    where
      go : (o : Option Backup) → head_from g board.memory o ≡ record { finished = Some x; registers = registers; table = table } → recover_number board g o ≡ No.Done
      go None e = absurd (none_some x (ap (λ (h : Head). h.finished) e))
      go (Some y) e =
          let et : table_in g board.memory y ≡ table = ap (λ (h : Head). h.table) e in
          rw (f, lent_exact g board l, et, k.good)

  guard_done : (n : Number) (q : Plan) → n ≡ No.Done → guard n q ≡ q
  unfolding guard number_of
  guard_done n q e = rw e

  pub recover_carries : outside g ≡ false → Lent g board → recover_plan board g ≡ goal
  unfolding recover_plan
  recover_carries f l = guard_done _ _ (recover_number_lem f l) ∙ recover_from_lem

pub recovered_inv : (g : Geometry) (board : Board) {x : Backup} {registers : Option (List ℕ)} {table : List ℕ} (plain : Plain)
    → outside g ≡ false → Lent g board → Kept g board.memory x registers table plain.kept
    → ((block : ℕ) → block < g.blocks → plain.live block ≡ plain.kept.blocks block)
    → Inv (recovered g board.memory (cache_of board) x registers table) plain
recovered_inv g board {x} {registers} {table} plain f l k same = record {
  fine = f;
  lent = record { memory = l.memory; cache = l.cache; table = kept_length k };
  registers = registers;
  keeps = table;
  kept = k;
  mode =
      let live = sound_live g board.memory (cache_of board) table k.good in
      mode_running (sym (sound_stands g board.memory (cache_of board) table k.good))
      (record { formed = live.formed; apart = live.apart; shows = λ block h. live.shows block h ∙ k.image block h ∙ sym (same block h) });
}

-- ---- a format that is whole

free_sound : (g : Geometry) (n : ℕ) → sound g (replicate n 0) ≡ true
unfolding sound well_formed well_said says distinct new_to every
free_sound g n = rw (clean n, apart n)
  where
    clean : (n : ℕ) → every (well_formed only_clean g) (replicate n 0) ≡ true
    clean zero = refl
    clean (suc n) = clean n

    apart : (n : ℕ) → distinct (replicate n 0) ≡ true
    apart zero = refl
    apart (suc n) = apart n

free_lookup : (block n : ℕ) → lookup block (replicate n 0) ≡ None
unfolding lookup lookup_by says one_on
free_lookup block zero = refl
free_lookup block (suc n) = rw (free_lookup block n)

module _ (g : Geometry) (fill : ℕ) (memory : List ℕ) (lm : length memory ≡ 8 * memory_words g) where
  first : List Store
  first = numbers_to (mark_start g) (0 ∷ [])

  rest : List Store
  rest = fill_to (home_start g) (home_words g) fill ++ (fill_to (backup_start g A) (backup_words g) 0 ++ numbers_to (mark_start g) (format_mark ∷ []))

  home_run : Laid (home_start g) (home_words g) (length memory) (fill_to (home_start g) (home_words g) fill)
  home_run = fill_to_laid (home_words g) (home_start g) fill (length memory) (omega arith)

  backup_run : Laid (backup_start g A) (backup_words g) (length memory) (fill_to (backup_start g A) (backup_words g) 0)
  backup_run = fill_to_laid (backup_words g) (backup_start g A) 0 (length memory) (omega arith)

  mark_run : (x : ℕ) → Laid (mark_start g) 1 (length memory) (numbers_to (mark_start g) (x ∷ []))
  mark_run x = numbers_to_laid (x ∷ []) (mark_start g) (length memory) (omega arith)

  rest_fits : All (Fit (length memory)) rest
  unfolding rest
  rest_fits = all_append home_run.fits (all_append backup_run.fits (mark_run format_mark).fits)

  rest_rises : Rising (home_start g) rest
  unfolding rest
  rest_rises =
      rising_append (omega arith) home_run.rises (in_below (omega arith) home_run.inside)
      (rising_append {i = backup_start g A} {j = mark_start g} (omega arith) backup_run.rises (in_below (omega arith) backup_run.inside) (mark_run format_mark).rises)

  marked_zero : List ℕ
  marked_zero = lay first memory

  same_length : length marked_zero ≡ length memory
  unfolding marked_zero first
  same_length = lay-length first memory (mark_run 0).fits

  rest_fits' : All (Fit (length marked_zero)) rest
  rest_fits' = subst (λ (n : ℕ). All (Fit n) rest) (sym same_length) rest_fits

  made : List ℕ
  made = lay (format_list g fill) memory

  made_is : made ≡ lay rest marked_zero
  unfolding made format_list marked_zero first rest
  made_is = lay-append first rest memory

  stands : All (Held made) rest
  stands = rw made_is (rising_held rest marked_zero rest_fits' rest_rises)

  pub made_length : length (lay (format_list g fill) memory) ≡ 8 * memory_words g
  unfolding made
  made_length = ap length made_is ∙ lay-length rest marked_zero rest_fits' ∙ same_length ∙ lm

  -- every block is fill, and A is finished and has no registers
  pub made_kept : Kept g (lay (format_list g fill) memory) A None (replicate g.slots 0) (formatted fill).kept
  unfolding made rest head_of head_from finished_in finished_by has_registers table_in saved_block saved_by block_at formatted
  made_kept =
      let one = all_split (fill_to (home_start g) (home_words g) fill) stands in
      let two = all_split (fill_to (backup_start g A) (backup_words g) 0) one.1 in
      let home : words made (home_start g) (home_words g) ≡ replicate (8 * home_words g) fill = held_fill made (home_words g) (home_start g) fill one.0 in
      let backup : words made (backup_start g A) (backup_words g) ≡ replicate (8 * backup_words g) 0 = held_fill made (backup_words g) (backup_start g A) 0 two.0 in
      let table : numbers made (backup_start g A + 8) g.slots ≡ replicate g.slots 0 =
      numbers_filled made g.slots (backup_start g A + 8) (part_filled made (backup_start g A) (backup_words g) 0 backup 8 g.slots (omega arith))
      in
      let mark : number (word made (mark_start g)) ≡ format_mark = held_number made (mark_start g) format_mark (omega arith) two.1 in
      record {
        reads = rw (mark, registers_by g made A format_mark mark, table);
        good = free_sound g g.slots;
        image = λ block h.
            rw (free_lookup block g.slots)
            (subst (λ (z : ℕ). words made z 8 ≡ replicate 64 fill) (let z : home_start g + 8 * block ≡ 8 * block = omega arith in z)
            (part_filled made (home_start g) (home_words g) fill home (8 * block) 8 (omega arith)));
        given = refl;
      }

  -- stopped after its first word and before its last, a format leaves mark 0
  fronts : List Store
  fronts = fill_to (home_start g) (home_words g) fill ++ fill_to (backup_start g A) (backup_words g) 0

  fronts_below : All (Below (mark_start g)) fronts
  unfolding fronts
  fronts_below = all_append (in_below (omega arith) home_run.inside) (in_below (omega arith) backup_run.inside)

  list_is : format_list g fill ≡ first ++ (fronts ++ numbers_to (mark_start g) (format_mark ∷ []))
  unfolding format_list first fronts
  list_is =
      ap (λ (z : List Store). numbers_to (mark_start g) (0 ∷ []) ++ z)
      (sym (append_assoc (fill_to (home_start g) (home_words g) fill) (fill_to (backup_start g A) (backup_words g) 0) (numbers_to (mark_start g) (format_mark ∷ []))))

  one_first : length first ≡ 1
  unfolding first
  one_first = (mark_run 0).count

  pub cut_mark : (p : ℕ) → suc p < length (format_list g fill) → number (word (lay (take (suc p) (format_list g fill)) memory) (mark_start g)) ≡ 0
  unfolding marked_zero first Misses fronts
  cut_mark p h =
      let last : List Store = numbers_to (mark_start g) (format_mark ∷ []) in
      let n : length (format_list g fill) ≡ 1 + (length fronts + 1) =
      ap length list_is ∙ length-append first (fronts ++ last) ∙ (rw (one_first, length-append fronts last, (mark_run format_mark).count))
      in
      let t : take (suc p) (format_list g fill) ≡ first ++ take p fronts =
      ap (take (suc p)) list_is
      ∙ ap (λ (k : ℕ). take k (first ++ (fronts ++ last))) (let z : suc p ≡ length first + p = omega (arith, one_first) in z)
      ∙ take-append-add first (fronts ++ last) p
      ∙ ap (λ (z : List Store). first ++ z) (take-append-le p fronts last (omega arith))
      in
      let fits : All (Fit (length marked_zero)) (take p fronts) =
      subst (λ (k : ℕ). All (Fit k) (take p fronts)) (sym same_length) (all_take p (all_append home_run.fits backup_run.fits))
      in
      ap (λ (z : List Store). number (word (lay z memory) (mark_start g))) t
      ∙ ap (λ (z : List ℕ). number (word z (mark_start g))) (lay-append first (take p fronts) memory)
      ∙ ap number (untouched (take p fronts) marked_zero (mark_start g) fits (all_take p (all_map (λ w b e. let u = b.under in omega arith) fronts_below)))
      ∙ held_number marked_zero (mark_start g) 0 (omega arith) (rising_held first memory (mark_run 0).fits (mark_run 0).rises)

-- ---- a recovery on a board that keeps the invariant; with other sizes it is refused, since the lengths fix them

pub recover_keeps : (board : Board) (plain : Plain) → Inv board plain → (h : Geometry) → Keeps board plain (recover h) (recover_plan board h)
unfolding recover_plan recover_number did lay
recover_keeps board plain v h = guarded (recover_number board h (finished_in h board.memory)) go
  where
    g : Geometry
    g = sizes board

    after : Plain
    after = record { live = plain.kept.blocks; kept = plain.kept; on_its_way = None }

    goal : Geometry → Type 0
    goal z = Keeps board plain (recover z) (recover_from board z (finished_in z board.memory))

    same : goal g
    same =
        let x = board.volatile.controller.finished in
        subst (Keeps board plain (recover g)) (sym (recover_from_lem g board v.kept))
        (k_carry {stores = []} {after = (recovered g board.memory (cache_of board) x v.registers v.keeps).volatile} refl
        (subst (Inv (recovered g board.memory (cache_of board) x v.registers v.keeps)) (sym (note_unmarked g plain (recover g) 0 [] (no_mark g done)))
        (recovered_inv g board after v.fine v.lent v.kept (λ block lt. refl)))
        (λ p lt. absurd (not-suc-le-zero lt)))

    go : number_of (recover_number board h (finished_in h board.memory)) ≡ 0 → goal h
    go e =
        let finished = finished_in h board.memory in
        let p = sizes_passed board h ((no_checkpoint finished ⇒ No.NoCheckpoint) ∷ (unsound h board.memory finished ⇒ No.Backup) ∷ []) e in
        subst goal (sym (same_sizes g h board v.lent p.1)) same
