-- What an accepted format or move leaves of the two words.
use mathlib.Core.Path.{◌≡◌, ap, ◌∙◌}
use mathlib.Core.List.{List}
use Prim.Native.Nat.{ℕ, zero, suc, ◌*◌, ◌≤◌}
use native.Mathlib.Omega.{arith}
use native.Mathlib.Nat.{suc-ne-zero}
use lib.ListN.{length, take, replicate}
use lib.Seq.{take_all, take-nil}
use mathlib.Core.Bool.{false, true}
use Rattle.words.specs.Words.{words, Store, lay}
use Rattle.rules.specs.declared.Geometry.{Geometry}
use Rattle.rules.specs.Board.{Board}
use Rattle.rules.specs.Numbers.{number_of, first_of}
use Rattle.rules.specs.Power.{Outcome}
use Rattle.rules.specs.Starts.{formatted_side}
use Rattle.forms.specs.declared.Header.{Header}
use Rattle.forms.specs.declared.Header.TheVariants.{Missing, Fits, Other}
use Rattle.forms.specs.Stored.{header_bytes, header_start, long_words, header_of, header_to, zeros_to}
use Rattle.forms.specs.Calls.{sizes_checks, header_checks, headed_number, long_format_list, up_list, up_plan, back_plan, format, up, back, call}
use Rattle.forms.specs.Promises.{HeaderAfter}
use Rattle.forms.proofs.HeaderBytes.{Says, missing, fits, other, says}
use Rattle.forms.proofs.Checking.{other_stops, headed}
use Rattle.forms.proofs.Lists.{long_length}
use Rattle.forms.proofs.Long.{parts_of, parts_are, both_is}
use Rattle.forms.proofs.Moving.{both_words, with-header, with-zeros, up_whole, back_whole}
use Rattle.forms.proofs.Following.{Ends, refused, finished, stopped, ends}
use Rattle.forms.proofs.Formats.{format_headed}
use Rattle.forms.proofs.Starting.{sizes_lent, long_size, format_ends}

format_after : (p : ℕ) (board : Board) (g : Geometry) (fill : ℕ) → number_of (call p board (format g fill)).number ≡ 0
    → words (call p board (format g fill)).board.memory (header_start g) 2 ≡ header_bytes g
unfolding number_of
format_after p board g fill = go (call p board (format g fill)) (format_ends p board g fill)
  where
    headed_by : (q : ℕ) → number_of (first_of (sizes_checks board g)) ≡ 0 → length (long_format_list g fill) ≤ q
        → words (lay (take q (long_format_list g fill)) board.memory) (header_start g) 2 ≡ header_bytes g
    headed_by zero z e = absurd (omega (arith, long_length g fill, e))
    headed_by (suc q) z e = format_headed g fill board.memory (long_size board g (sizes_lent board g z)) q (omega (arith, long_length g fill, e))

    go : (o : Outcome) → Ends p board (first_of (sizes_checks board g)) (long_format_list g fill) (formatted_side board g) o → number_of o.number ≡ 0
        → words o.board.memory (header_start g) 2 ≡ header_bytes g
    go o (refused ne) a = absurd (ne a)
    go o (finished z e) a = headed_by p z e
    go o (stopped z e) a = absurd (suc-ne-zero 19 a)

-- the whole list of a move, by the header that it found
up_laid : (p : ℕ) (g : Geometry) (memory : List ℕ) → length memory ≡ 8 * long_words g → (header : Header) → Says g memory header
    → number_of (first_of (header_checks false header)) ≡ 0 → length (up_list g header) ≤ p
    → words (lay (take p (up_list g header)) memory) (header_start g) 2 ≡ header_bytes g
unfolding up_list number_of lay
up_laid p g memory size Missing (missing z) q e =
    ap (λ (stores : List Store). words (lay stores memory) (header_start g) 2) (take_all p (header_to g) e)
    ∙ ap (λ (m : List ℕ). words m (header_start g) 2) (ap (lay (header_to g)) (parts_are g memory size) ∙ up_whole (parts_of g memory size))
    ∙ both_is (with-header (parts_of g memory size))
    ∙ both_words g
up_laid p g memory size Fits (fits h) q e = ap (λ (stores : List Store). words (lay stores memory) (header_start g) 2) (take-nil p) ∙ h
up_laid p g memory size Other (other a b) q e = absurd (suc-ne-zero 13 (ap number_of (other_stops false) ∙ q))

up_after : (p : ℕ) (board : Board) (g : Geometry) → number_of (call p board (up g)).number ≡ 0
    → words (call p board (up g)).board.memory (header_start g) 2 ≡ header_bytes g
unfolding number_of call up_plan
up_after p board g = go (call p board (up g)) (ends p board (headed_number false board g) (up_list g (header_of g board.memory)) board.volatile)
  where
    go : (o : Outcome) → Ends p board (headed_number false board g) (up_list g (header_of g board.memory)) board.volatile o → number_of o.number ≡ 0
        → words o.board.memory (header_start g) 2 ≡ header_bytes g
    go o (refused ne) a = absurd (ne a)
    go o (finished z e) a = let h = headed false board g z in up_laid p g board.memory h.size (header_of g board.memory) (says g board.memory) h.header e
    go o (stopped z e) a = absurd (suc-ne-zero 19 a)

back_after : (p : ℕ) (board : Board) (g : Geometry) → number_of (call p board (back g)).number ≡ 0
    → words (call p board (back g)).board.memory (header_start g) 2 ≡ replicate 16 0
unfolding number_of call back_plan
back_after p board g = go (call p board (back g)) (ends p board (headed_number true board g) (zeros_to g) board.volatile)
  where
    go : (o : Outcome) → Ends p board (headed_number true board g) (zeros_to g) board.volatile o → number_of o.number ≡ 0
        → words o.board.memory (header_start g) 2 ≡ replicate 16 0
    go o (refused ne) a = absurd (ne a)
    go o (finished z e) a =
        let size = (headed true board g z).size in
        ap (λ (stores : List Store). words (lay stores board.memory) (header_start g) 2) (take_all p (zeros_to g) e)
        ∙ ap (λ (m : List ℕ). words m (header_start g) 2) (ap (lay (zeros_to g)) (parts_are g board.memory size) ∙ back_whole (parts_of g board.memory size))
        ∙ both_is (with-zeros (parts_of g board.memory size))
    go o (stopped z e) a = absurd (suc-ne-zero 19 a)

pub header_after : HeaderAfter
unfolding HeaderAfter
header_after p board g = (format_after p board g, up_after p board g, back_after p board g)
