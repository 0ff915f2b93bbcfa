use mathlib.Core.Path.{refl, ap, ◌∙◌}
use mathlib.Core.List.{List}
use Prim.Native.Nat.{ℕ, ◌+◌, ◌*◌, ◌-◌}
use lib.ListN.{length, take, drop}
use native.Mathlib.Omega.{arith}
use Rattle.words.specs.Words.{put}
use Rattle.rules.specs.Stores.{replaced}
use Rattle.merges.specs.Ranges.{inside, past}
use Rattle.merges.proofs.Reaching.{not_reached, outside, reached}
use Rattle.merges.proofs.Merged.{word_outside, word_covered, word_reached}
use Rattle.merges.proofs.lay_word.Goals as goal

pub returns-then-at-next : goal.returns-then-at-next
returns-then-at-next c =
    let a = c.args in
    let q = c.requires in
    let t = c.if-at-next.true in
    (not_reached (omega arith) t q.2, λ block sized v. c.put_word.ensures ∙ ap (put a.part.now a.place) (v ∙ word_outside block a.patch.offset a.patch.bytes.now a.k sized a.patch.inside q.1 (outside t q.2)))

pub returns-then-end-at : goal.returns-then-end-at
returns-then-end-at c =
    let a = c.args in
    let q = c.requires in
    let r = reached (omega arith) (omega arith) (omega arith) q.2 in
    let end = a.patch.offset + length a.patch.bytes.now in
    let piece : List ℕ = take (end - a.patch.offset - (a.next - a.patch.offset)) (drop (a.next - a.patch.offset) a.patch.bytes.now) in
    (past r.early c.if-end-at.true refl, λ block sized v. c.put_word-then-end-at.ensures ∙ ap (put a.part.now a.place) (c.merged_word-last.ensures ∙ ap (λ (z : List ℕ). replaced z (a.next - 8 * a.k) piece) v ∙ word_reached block a.patch.offset a.patch.bytes.now a.k sized a.patch.inside q.1 a.next end (omega arith) r (omega arith)))

pub returns-then-next-at : goal.returns-then-next-at
returns-then-next-at c =
    let a = c.args in
    let q = c.requires in
    let r = reached (omega arith) (omega arith) (omega arith) q.2 in
    (inside r.early (omega arith) refl, λ block sized v. c.put_word-then-next-at.ensures ∙ ap (put a.part.now a.place) (c.eight_at-covered.ensures ∙ word_covered block a.patch.offset a.patch.bytes.now a.k sized a.patch.inside q.1 (omega (arith, r.starts)) (omega arith)))

pub returns : goal.returns
returns c =
    let a = c.args in
    let q = c.requires in
    let r = reached (omega arith) (omega arith) (omega arith) q.2 in
    let stop = 8 * a.k + 8 in
    let piece : List ℕ = take (stop - a.patch.offset - (a.next - a.patch.offset)) (drop (a.next - a.patch.offset) a.patch.bytes.now) in
    (inside r.early (omega arith) refl, λ block sized v. c.put_word-2.ensures ∙ ap (put a.part.now a.place) (c.merged_word-first.ensures ∙ ap (λ (z : List ℕ). replaced z (a.next - 8 * a.k) piece) v ∙ word_reached block a.patch.offset a.patch.bytes.now a.k sized a.patch.inside q.1 a.next stop (omega arith) r (omega arith)))
