-- A walk from clean entry to clean entry: what stands when the entries below a slot are met.
use mathlib.Core.Path.{◌≡◌, refl, sym, ap, ◌∙◌, subst}
use mathlib.Core.List.{List, [], ◌∷◌, ◌++◌}
use Prim.Native.Nat.{ℕ, ◌+◌, ◌*◌, ◌-◌, ◌/◌, ◌≤◌, ◌<◌}
use native.Mathlib.Omega.{arith}
use lib.ListN.{length, take, get_or, set, length-append, length-take}
use lib.Seq.{take_all}
use Rattle.words.specs.Words.{Store, Lays, lay, bytes_to, block_at}
use Rattle.words.proofs.All.{All, all_take}
use Rattle.words.proofs.Laying.{lays_nothing}
use Rattle.rules.specs.declared.Geometry.{Geometry}
use Rattle.rules.specs.declared.Phase.TheVariants.{Running}
use Rattle.rules.specs.declared.State.TheVariants.{Clean}
use Rattle.rules.specs.Geometry.{home_block, checkpoint_block}
use Rattle.rules.specs.Numbers.{well_formed, allows}
use Rattle.rules.specs.Sweeps.{CleanEntry, clean_from, home_copies, hidden}
use Rattle.rules.proofs.Checked.{formed_names}
use Rattle.rules.proofs.Changing.{every_all, all_get}
use Rattle.checks.specs.Tables.{Next}
use Rattle.sweeps.specs.Entries.{is_clean, Sweepable}
use Rattle.sweeps.proofs.Entries.{clean_says, entry_at, met, met_here, met_goes_on, met_lowest, Within, clean_within, laid_more, hidden_last, hidden_above, hidden_word}

-- the entries below a slot are met, and their copies laid under an allowance
pub record Walked (g : Geometry) (memory table : List ℕ) (p entries : ℕ) (memory' : List ℕ) (slot done : ℕ) : Type 0 where
  pub within : slot ≤ length table
  pub few : done ≤ entries
  pub low : done ≤ slot
  pub count : done ≡ length (met table slot)
  pub laid : Lays p (home_copies g memory (met table slot)) memory memory' (8 * done)
  pub size : length memory' ≡ length memory

module _ (g : Geometry) (memory table : List ℕ) (s : Sweepable g memory table) (p entries : ℕ) (enough : entries ≤ length (clean_from 0 table)) where
  pub walk_starts : Walked g memory table p entries memory 0 0
  unfolding home_copies clean_from
  walk_starts = record { within = omega arith; few = omega arith; low = omega arith; count = refl; laid = lays_nothing p memory; size = refl }

  met_within : (slot : ℕ) → slot ≤ length table → All (Within g slot) (met table slot)
  met_within slot h =
      let e : 0 + length (take slot table) ≡ slot = simp length-take (omega arith) in
      clean_within g slot 0 (all_take slot (every_all (well_formed (allows Running) g) table s.formed)) (omega arith)

  -- the table of the walk, in which those met are hidden: from here on its words are as they were
  module _ {table' : List ℕ} {start : ℕ} (h : start ≤ length table) (same : length table' ≡ length table) (now : table' ≡ hidden (met table start) table) where
    pub word_still : (i : ℕ) → start ≤ i → get_or table' i 0 ≡ get_or table i 0
    word_still i a = ap (λ (z : List ℕ). get_or z i 0) now ∙ hidden_above g start table (met_within start h) i a

    pub next_still : {slot : ℕ} → Next is_clean table' start slot → Next is_clean table start slot
    next_still {slot} n = record {
      after = n.after;
      within = omega (arith, n.within, same);
      between = λ i a b. ap is_clean (sym (word_still i a)) ∙ n.between i a b;
      here = λ q. ap is_clean (sym (word_still slot n.after)) ∙ n.here (omega (arith, same));
    }

  module _ {memory' : List ℕ} {start done slot : ℕ} (w : Walked g memory table p entries memory' start done) (more : done < entries) (n : Next is_clean table start slot) where
    pub walk_finds : slot < length table
    walk_finds = met_goes_on table start slot n (omega (arith, w.count, enough))

    pub walk_block : get_or table slot 0 / 256 < g.blocks
    walk_block =
        (formed_names (allows Running) g (get_or table slot 0) (get_or table slot 0 / 256) Clean
        (all_get slot (every_all (well_formed (allows Running) g) table s.formed) walk_finds) (clean_says (get_or table slot 0) (n.here walk_finds))).0

    pub walk_more : (left : ℕ) {memory'' : List ℕ} {r : ℕ} → left ≡ p - 8 * done → length memory'' ≡ length memory'
        → Lays left (bytes_to (8 * home_block g (get_or table slot 0 / 256)) 8 (block_at memory' (checkpoint_block g slot))) memory' memory'' r
        → Walked g memory table p entries memory'' (slot + 1) (done + 1)
    unfolding bytes_to
    walk_more left {memory''} {r} e sized l =
        let met' = met_here table start slot n walk_finds in
        let words : 8 * done + r ≡ 8 * (done + 1) = (let z : r ≡ 8 = l.words in omega arith) in
        let more-laid = laid_more g memory s.memory start (omega (arith, w.within, s.table)) (met_within start w.within) w.laid left (entry_at slot (get_or table slot 0)) e l in
        record {
          within = omega (arith, walk_finds);
          few = omega arith;
          low = omega (arith, w.low, n.after);
          count = sym (ap length met' ∙ length-append (met table start) (entry_at slot (get_or table slot 0) ∷ []) ∙ ap (λ (k : ℕ). k + 1) (sym w.count));
          laid = subst (λ (z : List CleanEntry). Lays p (home_copies g memory z) memory memory'' (8 * (done + 1))) (sym met')
              (subst (Lays p (home_copies g memory (met table start ++ (entry_at slot (get_or table slot 0) ∷ []))) memory memory'') words more-laid);
          size = sized ∙ w.size;
        }

    -- the table with this one hidden too
    pub hidden_more : {table' : List ℕ} (word : ℕ) → word ≡ get_or table slot 0 → table' ≡ hidden (met table start) table
        → set table' slot (word + 2) ≡ hidden (met table (slot + 1)) table
    hidden_more word e now =
        ap (λ (z : List ℕ). set z slot (word + 2)) now
        ∙ ap (set (hidden (met table start) table) slot) (ap (λ (k : ℕ). k + 2) e ∙ hidden_word (get_or table slot 0) (n.here walk_finds))
        ∙ sym (ap (λ (z : List CleanEntry). hidden z table) (met_here table start slot n walk_finds) ∙ hidden_last (met table start) (entry_at slot (get_or table slot 0)) table)

  pub walk_ends : {memory' : List ℕ} {slot done : ℕ} → Walked g memory table p entries memory' slot done → entries ≤ done
      → met table slot ≡ take entries (clean_from 0 table)
  walk_ends {memory'} {slot} {done} w e =
      let same : length (met table slot) ≡ entries = omega (arith, w.few, w.count) in
      met_lowest table slot ∙ ap (λ (k : ℕ). take k (clean_from 0 table)) same

  -- where the allowance is enough for all, nothing is cut off
  pub walk_whole : {memory' : List ℕ} {slot done : ℕ} → 8 * entries ≤ p → Walked g memory table p entries memory' slot done
      → memory' ≡ lay (home_copies g memory (met table slot)) memory
  walk_whole {memory'} {slot} {done} h w =
      w.laid.bytes
      ∙ ap (λ (z : List Store). lay z memory) (take_all p (home_copies g memory (met table slot)) (omega (arith, w.laid.words, w.few)))
