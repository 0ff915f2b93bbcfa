-- Protection, once, over the place where a block is saved: stores that change no protected word leave every prefix recovering alike.
use mathlib.Core.Path.{◌≡◌, ap, ◌∙◌}
use mathlib.Core.List.{List}
use Prim.Native.Nat.{ℕ, ◌+◌, ◌≤◌, ◌<◌}
use lib.ListN.{length, take}
use Rattle.words.specs.Words.{word, words, Store, lay}
use Rattle.words.proofs.All.{All, all_take}
use Rattle.words.proofs.Lists.{Fit, Harmless, harmless}
use Rattle.words.proofs.Makers.{words_agree}
use Rattle.rules.specs.Stores.{stores}

-- a way of saving: what a recovery reads first, which words that is read from, and where it then has each block
pub record Scheme : Type 1 where
  pub Head : Type 0
  pub head : List ℕ → Head
  pub Reads : Head → ℕ → Type 0
  -- the first of the eight words where a block is saved
  pub place : Head → ℕ → ℕ
  -- how many blocks there are
  pub count : ℕ
  -- what is read depends on the words that it is read from alone
  pub local : (memory memory' : List ℕ) → ((j : ℕ) → Reads (head memory) j → word memory' j ≡ word memory j) → head memory' ≡ head memory

module _ (S : Scheme) where
  pub data Protected (memory : List ℕ) (j : ℕ) : Type 0 where
    reading : S.Reads (S.head memory) j → Protected memory j
    saving : (block : ℕ) → block < S.count → S.place (S.head memory) block ≤ j → j < S.place (S.head memory) block + 8 → Protected memory j

  -- the same is read first, and every saved block is the same
  pub record SameImage (memory memory' : List ℕ) : Type 0 where
    pub heads : S.head memory' ≡ S.head memory
    pub blocks : (block : ℕ) → block < S.count
        → words memory' (S.place (S.head memory') block) 8 ≡ words memory (S.place (S.head memory) block) 8

  -- two memories that agree on the protected words of one recover alike
  pub agree : (memory memory' : List ℕ) → ((j : ℕ) → Protected memory j → word memory' j ≡ word memory j) → SameImage memory memory'
  agree memory memory' h =
      let e : S.head memory' ≡ S.head memory = S.local memory memory' (λ j r. h j (reading r)) in
      record {
        heads = e;
        blocks = λ block lt.
            ap (λ (x : S.Head). words memory' (S.place x block) 8) e
            ∙ words_agree memory memory' 8 (S.place (S.head memory) block) (λ j a b. h j (saving block lt a b));
      }

  -- a list of stores none of which changes a protected word, stopped after any of them
  pub every_prefix : (memory : List ℕ) (stores : List Store) (p : ℕ) → All (Fit (length memory)) stores
      → All (Harmless (Protected memory) memory) stores → SameImage memory (lay (take p stores) memory)
  every_prefix memory stores p f h =
      agree memory (lay (take p stores) memory) (λ j q. harmless (Protected memory) (take p stores) memory (all_take p f) (all_take p h) j q)
