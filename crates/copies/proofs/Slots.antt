-- Begin over all slots: the list of copies slot by slot, and the table changed word by word.
use mathlib.Core.Path.{◌≡◌, refl, sym, ap, ◌∙◌}
use mathlib.Core.List.{List, [], ◌∷◌, ◌++◌, map, append_assoc, append-nil}
use mathlib.Core.Bool.{Bool, true}
use Prim.Native.Nat.{ℕ, zero, suc, ◌+◌, ◌*◌, ◌/◌, ◌%◌, ◌-◌, ◌≤◌, ◌<◌}
use native.Mathlib.Omega.{arith}
use native.Mathlib.Nat.{add-zero}
use native.Mathlib.Numerals.{add-one}
use lib.ListN.{length, take, drop, get_or, set, length-append, length-take, drop_of_length-le}
use lib.Seq.{take_all, take-nil, take-take, take-suc}
use Rattle.words.specs.Words.{Store, Lays, lay, bytes_to, block_at}
use Rattle.words.proofs.Lists.{lay-append}
use Rattle.words.proofs.Laying.{lays_then}
use Rattle.words.proofs.Blocks.{block_part}
use Rattle.words.proofs.Parts.{tail_part}
use Rattle.rules.specs.declared.Geometry.{Geometry}
use Rattle.rules.specs.TableWords.{says, every}
use Rattle.rules.specs.Checkpoints.{copied_to, copy_of, copies}
use Rattle.rules.proofs.Changing.{every_all, all_get}
use Rattle.rules.specs.declared.State.{State}
use Rattle.rules.specs.Numbers.{well_formed}
use Rattle.checks.specs.Tables.{Formed, FormedWord}
use Rattle.checks.proofs.Words.{formed_word}
use Rattle.std.specs.List.{sum_by}
use Rattle.std.proofs.lemmas.List.Sums.{sum_by-cons}
use Rattle.copies.proofs.Words.{few_words, copied_blocks}

-- ---- the bytes of a CACHE block

drop-take : {A : Type 0} (a b : ℕ) (xs : List A) → drop a (take (a + b) xs) ≡ take b (drop a xs)
drop-take zero b xs = let e : 0 + b ≡ b = omega arith in rw e
drop-take (suc a) b [] = let e : suc a + b ≡ suc (a + b) = omega arith in rw e (sym (take-nil b))
drop-take (suc a) b (x ∷ xs) = let e : suc a + b ≡ suc (a + b) = omega arith in rw e (drop-take a b xs)

-- a run of n words reads no more than their bytes
bytes_to-take : (n place : ℕ) (bytes : List ℕ) → bytes_to place n (take (8 * n) bytes) ≡ bytes_to place n bytes
unfolding bytes_to
bytes_to-take zero place bytes = refl
bytes_to-take (suc n) place bytes =
    let e : 8 * suc n ≡ 8 + 8 * n = omega arith in
    rw (e, take-take 8 (8 + 8 * n) bytes (omega arith), drop-take 8 (8 * n) bytes, bytes_to-take n (suc place) (drop 8 bytes))

pub tail_block : (cache : List ℕ) (slot place : ℕ) → bytes_to place 8 (take (length cache - 64 * slot) (drop (64 * slot) cache)) ≡ bytes_to place 8 (block_at cache slot)
tail_block cache slot place =
    ap (bytes_to place 8) (tail_part (64 * slot) cache) ∙ sym (bytes_to-take 8 place (drop (64 * slot) cache)) ∙ ap (bytes_to place 8) (sym (block_part cache slot))

-- ---- the list, slot by slot

pub slot_formed : (test : ℕ → Bool) (table : List ℕ) (slot : ℕ) → every test table ≡ true → slot < length table → test (get_or table slot 0) ≡ true
slot_formed test table slot e h = all_get slot (every_all test table e) h

module _ (g : Geometry) (cache : List ℕ) where
  abbrev copy_at : ℕ → ℕ → List Store
  copy_at slot word = copy_of cache slot (copied_to g slot (says word))

  copies_last : (slot : ℕ) (table : List ℕ) (word : ℕ)
      → copies g cache slot (table ++ (word ∷ [])) ≡ copies g cache slot table ++ copy_at (slot + length table) word
  unfolding copies
  copies_last slot [] word = rw (add-zero, append-nil)
  copies_last slot (first ∷ table) word =
      let e : slot + suc (length table) ≡ suc slot + length table = omega arith in
      rw (e, copies_last (suc slot) table word) (sym (append_assoc (copy_at slot first) (copies g cache (suc slot) table) _))

  pub one_copy_more : (table : List ℕ) (slot : ℕ) → slot < length table
      → copies g cache 0 (take (slot + 1) table) ≡ copies g cache 0 (take slot table) ++ copy_at slot (get_or table slot 0)
  one_copy_more table slot h =
      let e : 0 + length (take slot table) ≡ slot = simp length-take (omega arith) in
      ap (λ (k : ℕ). copies g cache 0 (take k table)) (add-one slot)
      ∙ ap (copies g cache 0) (take-suc table slot 0 h)
      ∙ copies_last 0 (take slot table) (get_or table slot 0)
      ∙ ap (λ (k : ℕ). copies g cache 0 (take slot table) ++ copy_at k (get_or table slot 0)) e

  -- laid under an allowance
  pub lays_more : (table : List ℕ) (slot p left : ℕ) {memory memory' memory'' : List ℕ} {done r : ℕ} → slot < length table
      → Lays p (copies g cache 0 (take slot table)) memory memory' done → left ≡ p - done
      → Lays left (copy_at slot (get_or table slot 0)) memory' memory'' r → Lays p (copies g cache 0 (take (slot + 1) table)) memory memory'' (done + r)
  lays_more table slot p left h a e b = rw (one_copy_more table slot h) (lays_then a (rw e at b))

  -- laid whole
  pub lay_more : (table : List ℕ) (slot : ℕ) (memory : List ℕ) {memory' memory'' : List ℕ} {r : ℕ} → slot < length table
      → memory' ≡ lay (copies g cache 0 (take slot table)) memory
      → Lays 8 (copy_at slot (get_or table slot 0)) memory' memory'' r → memory'' ≡ lay (copies g cache 0 (take (slot + 1) table)) memory
  lay_more table slot memory {memory'} h e l =
      let here : List Store = copy_at slot (get_or table slot 0) in
      l.bytes
      ∙ ap (λ (z : List Store). lay z memory') (take_all 8 here (few_words cache slot _))
      ∙ ap (lay here) e
      ∙ sym (ap (λ (z : List Store). lay z memory) (one_copy_more table slot h) ∙ lay-append (copies g cache 0 (take slot table)) here memory)

-- ---- counted

-- how many blocks begin copies for a well formed word, by its code
abbrev pub blocks_by : ℕ → ℕ
blocks_by word = word % 256 / 4

pub one_word : (allowed : State → Bool) (g : Geometry) → g.blocks ≤ 4096 → (word n : ℕ) → well_formed allowed g word ≡ true
    → (FormedWord word → (h : Geometry) (cache : List ℕ) (slot : ℕ) → 8 * n ≡ length (copy_of cache slot (copied_to h slot (says word)))) → n ≡ blocks_by word
one_word allowed g few word n formed counts =
    let f = formed_word allowed g word few formed in
    let e = counts f g [] 0 in
    let here = copied_blocks [] 0 g word f in
    omega arith

pub blocks_summed : (g : Geometry) (cache : List ℕ) (slot : ℕ) (table : List ℕ) → Formed table → 8 * sum_by blocks_by table ≡ length (copies g cache slot table)
unfolding copies
blocks_summed g cache slot [] f = refl
blocks_summed g cache slot (word ∷ table) f =
    let here = copied_blocks cache slot g word (f 0 (omega arith)) in
    let rest = blocks_summed g cache (suc slot) table (λ i l. f (suc i) (omega arith)) in
    rw (sum_by-cons, length-append) (omega (arith, here, rest))

pub few_blocks : (table : List ℕ) → sum_by blocks_by table ≤ 63 * length table
few_blocks [] = omega arith
few_blocks (word ∷ table) = let rest = few_blocks table in rw sum_by-cons (omega arith)

-- ---- the table, word by word

module _ (f : ℕ → ℕ) where
  abbrev pub changedTo : ℕ → List ℕ → List ℕ
  changedTo slot table = map f (take slot table) ++ drop slot table

  -- a word that the walk has not reached
  pub not_reached : (table : List ℕ) (slot : ℕ) → get_or (changedTo slot table) slot 0 ≡ get_or table slot 0
  not_reached [] zero = refl
  not_reached [] (suc slot) = refl
  not_reached (word ∷ table) zero = refl
  not_reached (word ∷ table) (suc slot) = not_reached table slot

  pub one_word_more : (table : List ℕ) (slot : ℕ) → slot < length table → set (changedTo slot table) slot (f (get_or table slot 0)) ≡ changedTo (slot + 1) table
  one_word_more table slot h = go table slot h ∙ ap (λ (k : ℕ). changedTo k table) (sym (add-one slot))
    where
      go : (table : List ℕ) (slot : ℕ) → slot < length table → set (changedTo slot table) slot (f (get_or table slot 0)) ≡ changedTo (suc slot) table
      go [] slot h = absurd (omega arith)
      go (word ∷ table) zero h = refl
      go (word ∷ table) (suc slot) h = ap (λ (z : List ℕ). f word ∷ z) (go table slot (omega arith))

  pub all_words : (table : List ℕ) (slot : ℕ) → length table ≤ slot → changedTo slot table ≡ map f table
  all_words table slot h = rw (take_all slot table h, drop_of_length-le table h) (append-nil (map f table))
