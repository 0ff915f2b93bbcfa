-- A property of every element of a list.
use mathlib.Core.List.{List, [], ◌∷◌, ◌++◌}
use Prim.Native.Nat.{ℕ, zero, suc}
use lib.ListN.{take, drop}

pub data All {A : Type 0} (P : A → Type 0) : List A → Type 0 where
  done : All P []
  also : {x : A} {xs : List A} → P x → All P xs → All P (x ∷ xs)

pub all_take : {A : Type 0} {P : A → Type 0} {xs : List A} (p : ℕ) → All P xs → All P (take p xs)
all_take zero a = done
all_take (suc p) done = done
all_take (suc p) (also a az) = also a (all_take p az)

pub all_drop : {A : Type 0} {P : A → Type 0} {xs : List A} (p : ℕ) → All P xs → All P (drop p xs)
all_drop zero a = a
all_drop (suc p) done = done
all_drop (suc p) (also a az) = all_drop p az

pub all_append : {A : Type 0} {P : A → Type 0} {xs ys : List A} → All P xs → All P ys → All P (xs ++ ys)
all_append done b = b
all_append (also a az) b = also a (all_append az b)

pub all_map : {A : Type 0} {P Q : A → Type 0} {xs : List A} (f : (x : A) → P x → Q x) → All P xs → All Q xs
all_map f done = done
all_map f (also {x = x} a az) = also (f x a) (all_map f az)

pub all_both : {A : Type 0} {P Q R : A → Type 0} {xs : List A} (f : (x : A) → P x → Q x → R x) → All P xs → All Q xs → All R xs
all_both f done done = done
all_both f (also {x = x} a az) (also b bz) = also (f x a b) (all_both f az bz)
