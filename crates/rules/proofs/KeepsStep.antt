-- A step keeps the invariant.
use mathlib.Core.Path.{◌≡◌, refl, sym, ap, ◌∙◌, subst}
use mathlib.Core.Logic.{◌≢◌}
use mathlib.Core.Bool.{Bool, true, false, ◌&&◌, cond}
use mathlib.Core.List.{List, [], ◌∷◌, ◌++◌, map}
use Prim.Native.Nat.{ℕ, ◌+◌, ◌*◌, ◌^◌, ◌≤◌, ◌<◌}
use native.Mathlib.Omega.{arith}
use native.Mathlib.Nat.{suc-ne-zero}
use lib.Dec.{eqb, ltb}
use lib.ListN.{length, take, drop, length-append, length-take, length-drop, length-map, take-append-drop}
use lib.Seq.{take_all, take-take, take-add, take-append-le, drop-append-le}
use borrow.Author.Tests.{eqb-true, eqb-false, eq-eqb, ltb-true}
use Rattle.std.specs.Prelude.{Option, Some, None}
use Rattle.words.specs.Words.{word, words, block_at, Store, lay, bytes_to, number, number_bytes, numbers_to, numbers}
use Rattle.words.proofs.All.{All, done, also, all_take, all_drop, all_append, all_map}
use Rattle.words.proofs.Lists.{Fit, lay-length}
use Rattle.words.proofs.Rising.{Held, Rising, From, rising_all, rising_append, held_more, in_below}
use Rattle.words.proofs.Makers.{Laid, bytes_to_laid, laid-append, numbers_to_laid, held_bytes, held_numbers, held_number, Small}
use Rattle.words.proofs.Blocks.{Clear, block_clear}
use Rattle.rules.specs.declared.Geometry.{Geometry}
use Rattle.rules.specs.declared.Backup.{Backup}
use Rattle.rules.specs.declared.Backup.TheVariants.{A, B}
use Rattle.rules.specs.declared.Phase.{Phase}
use Rattle.rules.specs.declared.Phase.TheVariants.{Running, Writing, Off}
use Rattle.rules.specs.declared.Controller.{Controller}
use Rattle.rules.specs.declared.State.{State}
use Rattle.rules.specs.declared.State.TheVariants.{Clean, Dirty, Hidden, PreHidden, PreDirty}
use Rattle.rules.specs.declared.Entry.{Entry}
use Rattle.rules.specs.declared.Place.{Place}
use Rattle.rules.specs.declared.Place.TheVariants.{Home, Checkpoint, Cache}
use Rattle.rules.specs.declared.Number.TheVariants as No
use Rattle.rules.specs.Geometry.{backup_start, backup_words, mark_start, memory_words}
use Rattle.rules.specs.TableWords.{word_of, Says, free, names, neither, says, lookup, entry_or, changed_by, changed}
use Rattle.rules.specs.Board.{Board, sizes, phase_of, cache_of, table_of}
use Rattle.rules.specs.Numbers.{number_of, ◌⇒◌, is_off, while_writing, well_said, well_formed, is_running}
use Rattle.rules.specs.Power.{Plan, carry, switched_off}
use Rattle.rules.specs.Loads.{spot_in, shows, spot_of, block_in, visible}
use Rattle.rules.specs.Checkpoints.{saved, other, mark_of, checkpoint_list, count_of, step_number, next_words, step_plan}
use Rattle.rules.specs.Starts.{finished_by, has_registers, finished_in, registers_in, table_in, only_clean, sound, saved_block}
use Rattle.rules.specs.Calls.{step}
use Rattle.rules.specs.PlainMachine.{Plain, did, has_mark, kept_or, finish, note}
use Rattle.rules.proofs.Clashes.{false_true, and_left, and_right, or_right}
use Rattle.rules.proofs.TableWordLaws.{says_word}
use Rattle.rules.proofs.Finding.{Finds, finds, found_lt}
use Rattle.rules.proofs.Apart.{Apart, apart_distinct}
use Rattle.rules.proofs.Changing.{changed_apart, all_every, all_over}
use Rattle.rules.proofs.Saving.{head_from, head_of, registers_by, Kept, saved_lt, Loose, in_other, blocks_low, mark_high, kept_stays}
use Rattle.rules.proofs.Checked.{passed, Common, common_passed, bounds}
use Rattle.rules.proofs.Invariant.{standing, formed_running, Live, Drafted, Mode, mode_running, mode_writing, Inv, Keeps, k_carry, no_mark, guarded, stopped}

-- ---- the list of a checkpoint: the words before the mark, and the mark

module _ (g : Geometry) (backup : Backup) (registers table : List ℕ) (eight : length registers ≡ 64) (exact : length table ≡ g.slots) where
  unfoldable pub front : List Store
  front = bytes_to (backup_start g backup) 8 registers ++ numbers_to (backup_start g backup + 8) table

  last : List Store
  last = numbers_to (mark_start g) (mark_of backup ∷ [])

  pub front_run : (size : ℕ) → size ≡ 8 * memory_words g → Laid (backup_start g backup) (backup_words g) size front
  unfolding front
  front_run size e =
      subst (λ (n : ℕ). Laid (backup_start g backup) n size front) (ap (λ (n : ℕ). 8 + n) exact)
      (laid-append (bytes_to_laid 8 (backup_start g backup) registers size (omega arith) (omega (arith, mark_high g backup)))
      (numbers_to_laid table (backup_start g backup + 8) size (omega (arith, mark_high g backup, exact))))

  last_run : (size : ℕ) → size ≡ 8 * memory_words g → Laid (mark_start g) 1 size last
  unfolding last
  last_run size e = numbers_to_laid (mark_of backup ∷ []) (mark_start g) size (omega arith)

  pub list_rises : Rising (backup_start g backup) (checkpoint_list g backup registers table)
  unfolding checkpoint_list front last
  list_rises =
      let run = front_run (8 * memory_words g) refl in
      rising_append (omega (arith, mark_high g backup)) run.rises (in_below (mark_high g backup) run.inside) (last_run (8 * memory_words g) refl).rises

  pub list_fits : (size : ℕ) → size ≡ 8 * memory_words g → All (Fit size) (checkpoint_list g backup registers table)
  unfolding checkpoint_list front last
  list_fits size e = all_append (front_run size e).fits (last_run size e).fits

  length_front : length front ≡ g.slots + 8
  length_front = let e = (front_run (8 * memory_words g) refl).count in omega arith

  drop_list : (count : ℕ) → count ≤ g.slots + 8 → drop count (checkpoint_list g backup registers table) ≡ drop count front ++ last
  unfolding checkpoint_list front last
  drop_list count h = drop-append-le count front last (omega (arith, length_front))

  -- a part before the mark
  pub part_before : (count n : ℕ) → count + n ≤ g.slots + 8 → take n (drop count (checkpoint_list g backup registers table)) ≡ take n (drop count front)
  part_before count n h =
      rw (drop_list count (omega arith)) (take-append-le n (drop count front) last (simp length-drop (omega (arith, length_front))))

  pub length_rest : (count : ℕ) → count ≤ g.slots + 8 → length (drop count (checkpoint_list g backup registers table)) + count ≡ g.slots + 9
  length_rest count h =
      let e = (last_run (8 * memory_words g) refl).count in
      rw (drop_list count h) (simp (length-append, length-drop, length_front) (omega arith))

  -- the part with the mark is all that is left
  pub part_with : (count n : ℕ) → count ≤ g.slots + 8 → count + length (take n (drop count (checkpoint_list g backup registers table))) ≡ g.slots + 9
      → take n (drop count (checkpoint_list g backup registers table)) ≡ drop count (checkpoint_list g backup registers table)
  part_with count n h e =
      take_all n (drop count (checkpoint_list g backup registers table))
      (omega (arith, length_rest count h, e, length-take n (drop count (checkpoint_list g backup registers table))))

  -- the mark is the last store of the list
  pub marks_last : (count : ℕ) → count ≤ g.slots + 8 → has_mark g (drop count (checkpoint_list g backup registers table)) ≡ true
  unfolding last numbers_to number_bytes bytes_to has_mark
  marks_last count h = rw (drop_list count h) (go (drop count front))
    where
      go : (xs : List Store) → has_mark g (xs ++ last) ≡ true
      go [] = rw (eq-eqb (mark_start g) (mark_start g) refl)
      go (s ∷ xs) = or_right (eqb s.place (mark_start g)) (has_mark g (xs ++ last)) (go xs)

-- ---- the words of a table as they are saved

saved_small : (allowed : State → Bool) (g : Geometry) → g.blocks ≤ 4096 → (w : ℕ) → well_formed allowed g w ≡ true → Small (changed saved w)
unfolding well_formed well_said changed changed_by entry_or saved Small word_of
saved_small allowed g h w e = go (says w) e
  where
    word_small : (block : ℕ) → block < 4096 → word_of block Clean < 256 ^ 8
    word_small block l = omega arith

    below : (block : ℕ) (state : State) → ltb block g.blocks && allowed state ≡ true → block < 4096
    below block state q = omega (arith, ltb-true block g.blocks (and_left (ltb block g.blocks) (allowed state) q), h)

    go : (x : Says) → well_said allowed g x ≡ true → changed_by saved x < 256 ^ 8
    go free q = omega arith
    go neither q = omega arith
    go (names block Clean) q = word_small block (below block Clean q)
    go (names block Dirty) q = omega arith
    go (names block Hidden) q = omega arith
    go (names block PreHidden) q = word_small block (below block PreHidden q)
    go (names block PreDirty) q = omega arith

saved_clean : (allowed : State → Bool) (g : Geometry) (w : ℕ) → well_formed allowed g w ≡ true → well_formed only_clean g (changed saved w) ≡ true
unfolding well_formed well_said changed changed_by entry_or saved only_clean
saved_clean allowed g w e = go (says w) e
  where
    named : (block : ℕ) (state : State) → ltb block g.blocks && allowed state ≡ true → well_said only_clean g (says (word_of block Clean)) ≡ true
    named block state q = rw (says_word block Clean, and_left (ltb block g.blocks) (allowed state) q)

    go : (x : Says) → well_said allowed g x ≡ true → well_said only_clean g (says (changed_by saved x)) ≡ true
    go free q = refl
    go neither q = refl
    go (names block Clean) q = named block Clean q
    go (names block Dirty) q = refl
    go (names block Hidden) q = refl
    go (names block PreHidden) q = named block PreHidden q
    go (names block PreDirty) q = refl

-- what is about to be saved passes recovery's check
saved_sound : (allowed : State → Bool) (g : Geometry) (table : List ℕ) → All (λ w. well_formed allowed g w ≡ true) table → Apart table
    → sound g (map (changed saved) table) ≡ true
unfolding sound
saved_sound allowed g table f a =
    rw (
      all_every (well_formed only_clean g) (map (changed saved) table) (all_over (changed saved) (saved_clean allowed g) f),
      apart_distinct (map (changed saved) table) (changed_apart saved a),
    )

-- while Writing there is no hidden entry: what is saved is what then stands
saved_stands : (g : Geometry) (w : ℕ) → well_formed while_writing g w ≡ true → changed saved w ≡ changed standing w
unfolding well_formed well_said changed changed_by saved standing while_writing
saved_stands g w e = go (says w) e
  where
    go : (x : Says) → well_said while_writing g x ≡ true → changed_by saved x ≡ changed_by standing x
    go free q = refl
    go neither q = refl
    go (names block Clean) q = refl
    go (names block Dirty) q = refl
    go (names block Hidden) q = absurd (false_true (and_right (ltb block g.blocks) false q))
    go (names block PreHidden) q = refl
    go (names block PreDirty) q = refl

table_stands : (g : Geometry) {table : List ℕ} → All (λ w. well_formed while_writing g w ≡ true) table → map (changed saved) table ≡ map (changed standing) table
table_stands g done = refl
table_stands g (also {x = w} a az) = rw (saved_stands g w a, table_stands g az)

-- ---- a memory whose blocks are as they were shows what it showed

pub shows_same : (g : Geometry) (memory memory' cache table : List ℕ) → length table ≡ g.slots
    → ((q : ℕ) → q < g.blocks + g.slots → block_at memory' q ≡ block_at memory q)
    → (block : ℕ) → block < g.blocks → visible g memory' cache table block ≡ visible g memory cache table block
unfolding visible spot_of spot_in block_in
shows_same g memory memory' cache table lt same block h = go (lookup block table) (finds block table)
  where
    at : (slot : ℕ) (p : Place) → slot < g.slots → block_in memory' cache (spot_in g block slot p) ≡ block_in memory cache (spot_in g block slot p)
    at slot Home ls = same block (omega arith)
    at slot Checkpoint ls = same (g.blocks + slot) (omega arith)
    at slot Cache ls = refl

    go : (r : Option Entry) → Finds block table r → block_in memory' cache (spot_of g block r) ≡ block_in memory cache (spot_of g block r)
    go None l = same block (omega arith)
    go (Some entry) l = at entry.slot (shows entry.state) (omega (arith, found_lt l))

-- ---- a whole list that stands in the memory is what recovery reads

pub all_split : {A : Type 0} {P : A → Type 0} (xs : List A) {ys : List A} → All P (xs ++ ys) → All P xs × All P ys
all_split [] a = (done, a)
all_split (x ∷ xs) (also a az) = let r = all_split xs az in (also a r.0, r.1)

pub mark_names : (backup : Backup) → finished_by (mark_of backup) ≡ Some backup
unfolding finished_by
mark_names A = refl
mark_names B = refl

mark_has_registers : (backup : Backup) → has_registers (mark_of backup) ≡ true
unfolding has_registers
mark_has_registers A = refl
mark_has_registers B = refl

mark_small : (backup : Backup) → mark_of backup < 256 ^ 8
mark_small A = omega arith
mark_small B = omega arith

finished_head : (g : Geometry) (backup : Backup) (memory registers table : List ℕ) → length registers ≡ 64 → length table ≡ g.slots → All Small table
    → All (Held memory) (checkpoint_list g backup registers table)
    → head_of g memory ≡ record { finished = Some backup; registers = Some registers; table = table }
unfolding head_of head_from finished_in registers_in table_in checkpoint_list
finished_head g backup memory registers table e8 es sm h =
    let one = all_split (bytes_to (backup_start g backup) 8 registers ++ numbers_to (backup_start g backup + 8) table) h in
    let two = all_split (bytes_to (backup_start g backup) 8 registers) one.0 in
    let r : words memory (backup_start g backup) 8 ≡ registers = held_bytes memory 8 (backup_start g backup) registers (omega arith) two.0 in
    let n : numbers memory (backup_start g backup + 8) g.slots ≡ table =
    subst (λ (z : ℕ). numbers memory (backup_start g backup + 8) z ≡ table) es (held_numbers memory table (backup_start g backup + 8) sm two.1)
    in
    let w : number (word memory (mark_start g)) ≡ mark_of backup = held_number memory (mark_start g) (mark_of backup) (mark_small backup) one.1 in
    rw (w, mark_names backup, registers_by g memory backup (mark_of backup) w, mark_has_registers backup, r, n)

-- ---- the plan

module _ (board : Board) (plain : Plain) (v : Inv board plain) (count : ℕ)
    (sh : Live (sizes board) while_writing board.memory (cache_of board) (table_of board) plain.live)
    (dr : Drafted (sizes board) board.memory (table_of board) board.volatile.controller.registers board.volatile.controller.finished count plain.on_its_way) where
  abbrev g : Geometry
  g = sizes board

  abbrev backup : Backup
  backup = other board.volatile.controller.finished

  abbrev registers : List ℕ
  registers = board.volatile.controller.registers

  abbrev saves : List ℕ
  saves = map (changed saved) (table_of board)

  abbrev list : List Store
  list = checkpoint_list (sizes board) (other board.volatile.controller.finished) board.volatile.controller.registers (map (changed saved) (table_of board))

  exact : length (map (changed saved) (table_of board)) ≡ (sizes board).slots
  exact = length-map (table_of board) (changed saved) ∙ v.lent.table

  -- the memory after the next n words
  abbrev memory' : ℕ → List ℕ
  memory' n = lay (take n (drop count list)) board.memory

  fits : All (Fit (length board.memory)) list
  fits = list_fits g backup registers saves dr.eight exact (length board.memory) v.lent.memory

  run : Laid (backup_start g backup) (backup_words g) (length board.memory) (front g backup registers saves dr.eight exact)
  run = front_run g backup registers saves dr.eight exact (length board.memory) v.lent.memory

  -- the blocks are as they were, whatever of the list is stored
  blocks_stay : (n q : ℕ) → q < g.blocks + g.slots → block_at (memory' n) q ≡ block_at board.memory q
  unfolding Clear From
  blocks_stay n q h =
      block_clear (take n (drop count list)) board.memory q (all_take n (all_drop count fits))
      (all_take n
      (all_drop count
      (all_map (λ w f lo hi. let f' : backup_start g backup ≤ w.place = f in omega (arith, blocks_low g backup))
      (rising_all (list_rises g backup registers saves dr.eight exact)))))

  live_stays : (n block : ℕ) → block < g.blocks → visible g (memory' n) (cache_of board) (table_of board) block ≡ plain.live block
  live_stays n block h = shows_same g board.memory (memory' n) (cache_of board) (table_of board) v.lent.table (blocks_stay n) block h ∙ sh.shows block h

  picture_stays : (n block : ℕ) → block < g.blocks → block_at (memory' n) (saved_block g saves block) ≡ dr.picture.blocks block
  picture_stays n block h = blocks_stay n (saved_block g saves block) (saved_lt g saves block h exact) ∙ dr.blocks block h

  lent_after : (n : ℕ) → length (memory' n) ≡ 8 * memory_words g
  lent_after n = lay-length (take n (drop count list)) board.memory (all_take n (all_drop count fits)) ∙ v.lent.memory

  held_after : (n : ℕ) → All (Held (memory' n)) (take count list ++ take n (drop count list))
  held_after n = held_more list count n board.memory fits (list_rises g backup registers saves dr.eight exact) dr.written

  loose : All (Loose g board.volatile.controller.finished v.keeps) (front g backup registers saves dr.eight exact)
  loose = all_map (λ w i. in_other i.low i.high) run.inside

  -- before the mark the finished backup stays as it is
  kept_before : (n : ℕ) → count + n ≤ g.slots + 8 → Kept g (memory' n) board.volatile.controller.finished v.registers v.keeps plain.kept
  kept_before n h =
      rw (part_before g backup registers saves dr.eight exact count n h)
      (kept_stays v.kept (drop count (front g backup registers saves dr.eight exact)) n (all_drop count run.fits) (all_drop count loose))

  unmarked : (n : ℕ) → count + n ≤ g.slots + 8 → has_mark g (take n (drop count list)) ≡ false
  unmarked n h =
      rw (part_before g backup registers saves dr.eight exact count n h)
      (no_mark g (all_take n (all_drop count (in_below (mark_high g backup) run.inside))))

  abbrev controllerAfter : ℕ → Bool → Controller
  controllerAfter c marked = record {
    geometry = sizes board;
    registers = board.volatile.controller.registers;
    finished = cond marked (other board.volatile.controller.finished) board.volatile.controller.finished;
    phase = cond marked Running (Writing c);
  }

  abbrev boardAfter : ℕ → ℕ → Bool → Board
  boardAfter n c marked = record {
    memory = memory' n;
    volatile = record { cache = cache_of board; table = table_of board; controller = controllerAfter c marked };
  }

  -- words before the mark
  goes_on : (n : ℕ) → count + n ≤ g.slots + 8 → Inv (boardAfter n (count + n) false) plain
  goes_on n h = record {
    fine = v.fine;
    lent = record { memory = lent_after n; cache = v.lent.cache; table = v.lent.table };
    registers = v.registers;
    keeps = v.keeps;
    kept = kept_before n h;
    mode = mode_writing (record { formed = sh.formed; apart = sh.apart; shows = live_stays n })
        (record {
          picture = dr.picture;
          begun = dr.begun;
          few = h;
          eight = dr.eight;
          given = dr.given;
          blocks = picture_stays n;
          written = subst (All (Held (memory' n))) (sym (take-add count n list)) (held_after n);
        });
  }

  -- words with the mark: the checkpoint on its way is what is kept
  ends : (n : ℕ) → count + length (take n (drop count list)) ≡ g.slots + 9 → (c : ℕ) → Inv (boardAfter n c true) (finish plain)
  unfolding finish kept_or
  ends n e c = record {
    fine = v.fine;
    lent = record { memory = lent_after n; cache = v.lent.cache; table = v.lent.table };
    registers = Some registers;
    keeps = saves;
    kept = subst (Kept g (memory' n) backup (Some registers) saves) (sym (ap (kept_or plain.kept) dr.begun))
        (record {
          reads =
              finished_head g backup (memory' n) registers saves dr.eight exact
              (all_over (changed saved) (saved_small while_writing g (bounds g v.fine).blocks_high) sh.formed)
              (subst (All (Held (memory' n)))
              (ap (λ (z : List Store). take count list ++ z) (part_with g backup registers saves dr.eight exact count n dr.few e) ∙ take-append-drop count list)
              (held_after n));
          good = saved_sound while_writing g (table_of board) sh.formed sh.apart;
          image = picture_stays n;
          given = dr.given;
        });
    mode = mode_running (table_stands g sh.formed)
        (record { formed = all_map (formed_running while_writing g) sh.formed; apart = sh.apart; shows = live_stays n });
  }

  marked : (n : ℕ) → count + length (take n (drop count list)) ≡ g.slots + 9 → has_mark g (take n (drop count list)) ≡ true
  marked n e =
      rw (part_with g backup registers saves dr.eight exact count n dr.few e) (marks_last g backup registers saves dr.eight exact count dr.few)

  stop_before : (n : ℕ) → count + n ≤ g.slots + 8 → Inv (record { memory = memory' n; volatile = switched_off board board.volatile }) plain
  stop_before n h =
      rw (part_before g backup registers saves dr.eight exact count n h)
      (stopped v (drop count (front g backup registers saves dr.eight exact)) (all_drop count run.fits) (all_drop count loose) n)

  fewer : (n : ℕ) → count + length (take n (drop count list)) ≢ g.slots + 9 → (count + n ≤ g.slots + 8) × (length (take n (drop count list)) ≡ n)
  fewer n ne =
      let l = length-take n (drop count list) in
      let r = length_rest g backup registers saves dr.eight exact count dr.few in
      let f = dr.few in
      (omega arith, omega arith)

  step_carried : (n : ℕ) → Keeps board plain (step n)
      (carry (take n (drop count list))
      (record {
        cache = cache_of board;
        table = table_of board;
        controller = controllerAfter (count + length (take n (drop count list))) (eqb (count + length (take n (drop count list))) (g.slots + 9));
      })
      [])
  unfolding note did
  step_carried n = k_carry refl (all (eqb (count + length ws) (g.slots + 9)) refl) halted
    where
      ws : List Store
      ws = take n (drop count list)

      after : Bool → Plain
      after f = cond f (finish plain) plain

      all : (f : Bool) → eqb (count + length ws) (g.slots + 9) ≡ f → Inv (boardAfter n (count + length ws) f) (after (has_mark g ws))
      all true e =
          let q = eqb-true (count + length ws) (g.slots + 9) e in
          subst (λ (z : Bool). Inv (boardAfter n (count + length ws) true) (after z)) (sym (marked n q)) (ends n q (count + length ws))
      all false e =
          let q = fewer n (eqb-false (count + length ws) (g.slots + 9) e) in
          subst (λ (z : Bool). Inv (boardAfter n (count + length ws) false) (after z)) (sym (unmarked n q.0))
          (subst (λ (z : ℕ). Inv (boardAfter n (count + z) false) plain) (sym q.1) (goes_on n q.0))

      halted : (p : ℕ) → p < length ws → Inv (record { memory = lay (take p ws) board.memory; volatile = switched_off board board.volatile }) (after (has_mark g (take p ws)))
      halted p h =
          let l = length-take n (drop count list) in
          let r = length_rest g backup registers saves dr.eight exact count dr.few in
          let q : count + p ≤ g.slots + 8 = omega arith in
          let e : take p (drop count list) ≡ take p ws = sym (take-take p n (drop count list) (omega arith)) in
          subst (λ (z : List Store). Inv (record { memory = lay z board.memory; volatile = switched_off board board.volatile }) (after (has_mark g z))) e
          (subst (λ (z : Bool). Inv (record { memory = memory' p; volatile = switched_off board board.volatile }) (after z)) (sym (unmarked p q)) (stop_before p q))

pub step_keeps : (board : Board) (plain : Plain) → Inv board plain → (n : ℕ) → Keeps board plain (step n) (step_plan board n)
unfolding step_plan step_number next_words count_of
step_keeps board plain v n = guarded (step_number board) (λ e. go e)
  where
    g : Geometry
    g = sizes board

    goal : ℕ → Plan
    goal count =
        let finished = board.volatile.controller.finished in
        let ws = take n (drop count (checkpoint_list g (other finished) board.volatile.controller.registers (map (changed saved) (table_of board)))) in
        carry ws
        (record {
          cache = cache_of board;
          table = table_of board;
          controller = record {
            geometry = g;
            registers = board.volatile.controller.registers;
            finished = cond (eqb (count + length ws) (g.slots + 9)) (other finished) finished;
            phase = cond (eqb (count + length ws) (g.slots + 9)) Running (Writing (count + length ws));
          };
        })
        []

    body : Common board false → is_running (phase_of board) ≡ false → (phase : Phase) → phase_of board ≡ phase → Mode board plain v.keeps phase
        → Keeps board plain (step n) (goal (count_of phase))
    body cm r Running e m = absurd (false_true (sym r ∙ ap is_running e))
    body cm r (Writing count) e (mode_writing sh dr) = step_carried board plain v count sh dr n
    body cm r Off e m = absurd (false_true (sym cm.awake ∙ ap is_off e))

    go : number_of (step_number board) ≡ 0 → Keeps board plain (step n) (goal (count_of (phase_of board)))
    go e =
        let c = common_passed board false ((is_running (phase_of board) ⇒ No.Idle) ∷ []) e in
        body c.0 (passed (is_running (phase_of board)) No.Idle [] (suc-ne-zero 8) c.1).0 (phase_of board) refl v.mode
