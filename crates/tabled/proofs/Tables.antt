-- A call on the words that were read from a table's bytes, as a call on those bytes.
use mathlib.Core.Path.{◌≡◌, refl, sym, ap, ◌∙◌}
use mathlib.Core.Bool.{Bool, true, false, cond}
use mathlib.Core.List.{List}
use Prim.Native.Nat.{ℕ, ◌*◌, ◌/◌}
use native.Mathlib.Omega.{arith}
use lib.ListN.{length}
use Rattle.words.specs.Words.{numbers, number_bytes}
use Rattle.rules.specs.declared.Controller.{Controller}
use Rattle.rules.specs.declared.Number.{Number}
use Rattle.rules.specs.declared.Answer.{Answer}
use Rattle.rules.specs.declared.Recovery.{Recovery}
use Rattle.rules.specs.Board.{board_of, table_of}
use Rattle.rules.specs.Power.{Outcome, outcome_of}
use Rattle.rules.specs.Starts.{Recovered}
use Rattle.rules.specs.Calls.{Call, call}
use Rattle.loads.specs.Reading.{Loaded}
use Rattle.tabled.specs.Tabled.{table_words, changes, Tabled, TabledRecovery}

-- the words of a table are those that were read
pub words_are : (bytes : List ℕ) (n : ℕ) → length bytes ≡ 8 * n → numbers bytes 0 n ≡ table_words bytes
unfolding table_words
words_are bytes n e = let k : n ≡ length bytes / 8 = omega (arith, e) in ap (numbers bytes 0) k

module _ (memory cache bytes : List ℕ) (k : Controller) {words : List ℕ} (n : ℕ) (size : length bytes ≡ 8 * n) (read : words ≡ numbers bytes 0 n) where
  board_is : board_of memory cache words k ≡ board_of memory cache (table_words bytes) k
  board_is = ap (λ (table : List ℕ). board_of memory cache table k) (read ∙ words_are bytes n size)

  pub loaded_by : {block offset : ℕ} {into into' : List ℕ} {r : Number} → Loaded (board_of memory cache words k) block offset into into' r
      → Loaded (board_of memory cache (table_words bytes) k) block offset into into' r
  loaded_by l = rw board_is at l

  module _ (p : ℕ) (x : Call) where
    pub tabled_by : {memory' cache' bytes' words' : List ℕ} {r : Answer} → call p (board_of memory cache words k) x ≡ outcome_of r memory' cache' words'
        → bytes' ≡ cond (changes r.number) (number_bytes words') bytes
        → Tabled (call p (board_of memory cache (table_words bytes) k) x) r memory' cache' bytes bytes'
    tabled_by {memory'} {cache'} {bytes'} {words'} {r} e b =
        let o : call p (board_of memory cache (table_words bytes) k) x ≡ outcome_of r memory' cache' words' = rw board_is at e in
        let t : words' ≡ table_of (call p (board_of memory cache (table_words bytes) k) x).board = sym (ap (λ (z : Outcome). table_of z.board) o) in
        record {
          outcome = o ∙ ap (outcome_of r memory' cache') t;
          table = b ∙ ap (λ (ws : List ℕ). cond (changes r.number) (number_bytes ws) bytes) t;
        }

    pub recovered_by : {bytes' words' : List ℕ} {r : Recovery} → Recovered (call p (board_of memory cache words k) x) r memory cache words'
        → bytes' ≡ cond (changes r.answer.number) (number_bytes words') bytes
        → TabledRecovery (call p (board_of memory cache (table_words bytes) k) x) r memory cache bytes bytes'
    recovered_by {bytes'} {words'} {r} e b =
        let o : Recovered (call p (board_of memory cache (table_words bytes) k) x) r memory cache words' = rw board_is at e in
        let t : words' ≡ table_of (call p (board_of memory cache (table_words bytes) k) x).board = ap table_of o.board in
        record {
          outcome = rw t at o;
          table = b ∙ ap (λ (ws : List ℕ). cond (changes r.answer.number) (number_bytes ws) bytes) t;
        }

-- a call that leaves the table alone: its bytes are the words'
pub bytes_stay : (b : Bool) (words : List ℕ) {bytes : List ℕ} → number_bytes words ≡ bytes → bytes ≡ cond b (number_bytes words) bytes
bytes_stay true words e = sym e
bytes_stay false words e = refl
