-- The new stored form: the old memory, and two words after the mark that say the board's sizes (document 02, No. 6).
use Rattle.std.specs.Prelude.{Bool, true, false, ◌&&◌, cond, List, [], ◌∷◌, ◌++◌, ℕ, ◌+◌, ◌-◌, eqb, length, take, drop, replicate}
use Rattle.words.specs.Words.{Store, word, words, bytes_to, fill_to}
use Rattle.rules.specs.declared.Geometry.{Geometry}
use Rattle.rules.specs.Geometry.{memory_words}
use Rattle.rules.specs.Board.{Board}
use Rattle.fields.specs.Fields.{big_endian, ◌holds◌, fields_of}
use Rattle.forms.specs.declared.Header.{Header}
use Rattle.forms.specs.declared.Header.TheVariants.{Missing, Fits, Other}

-- ---- the two words

-- tag 1, one byte, form 2; tag 2, two bytes, N; tag 3, two bytes, B; two zero bytes
unfoldable pub header_bytes : Geometry → List ℕ
unfolding fields_of big_endian
header_bytes g = fields_of ((1 holds (2 ∷ [])) ∷ (2 holds big_endian 2 g.blocks) ∷ (3 holds big_endian 2 g.slots) ∷ []) ++ (0 ∷ 0 ∷ [])

-- they come after the mark, the last word of the old form
abbrev pub header_start : Geometry → ℕ
header_start g = memory_words g

-- the whole memory
abbrev pub long_words : Geometry → ℕ
long_words g = memory_words g + 2

-- ---- what the two words of a memory say

unfoldable pub same : List ℕ → List ℕ → Bool
same [] [] = true
same [] (y ∷ ys) = false
same (x ∷ xs) [] = false
same (x ∷ xs) (y ∷ ys) = eqb x y && same xs ys

abbrev pub zero_word : List ℕ
zero_word = replicate 8 0

-- the first word zero means the old form; otherwise they are these sizes' header, or unlike it
unfoldable pub header_of : Geometry → List ℕ → Header
unfolding same word words header_bytes
header_of g memory =
    cond (same (word memory (header_start g)) zero_word) Missing (cond (same (words memory (header_start g) 2) (header_bytes g)) Fits Other)

-- ---- the memory without those two words, as the old form's calls take it

unfoldable pub without : List ℕ → List ℕ
without memory = take (length memory - 16) memory

unfoldable pub last_two : List ℕ → List ℕ
last_two memory = drop (length memory - 16) memory

abbrev pub old_board : Board → Board
old_board board = record { memory = without board.memory; volatile = board.volatile }

-- ---- stores of the two words

-- the first word zeroed
unfoldable pub first_zeroed : Geometry → List Store
unfolding fill_to
first_zeroed g = fill_to (header_start g) 1 0

-- moving up stores the second word, then the first
unfoldable pub header_to : Geometry → List Store
unfolding bytes_to header_bytes
header_to g = bytes_to (header_start g + 1) 1 (drop 8 (header_bytes g)) ++ bytes_to (header_start g) 1 (header_bytes g)

-- moving back zeroes the first, then the second
unfoldable pub zeros_to : Geometry → List Store
unfolding first_zeroed fill_to
zeros_to g = first_zeroed g ++ fill_to (header_start g + 1) 1 0
