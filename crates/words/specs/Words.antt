-- Memory as bytes, its 8-byte words, lists of word stores, and laying them (document 01: What the board is, Power).
use Rattle.std.specs.Prelude.{◌≡◌, List, [], ◌∷◌, ◌++◌, ℕ, zero, suc, ◌+◌, ◌*◌, ◌/◌, ◌%◌, length, take, drop, replicate}

-- ---- reading

-- the word at a place
unfoldable pub word : List ℕ → ℕ → List ℕ
word memory place = take 8 (drop (8 * place) memory)

-- the bytes of n words from a place on
unfoldable pub words : List ℕ → ℕ → ℕ → List ℕ
unfolding word
words memory place zero = []
words memory place (suc n) = word memory place ++ words memory (suc place) n

-- block q of a memory: 64 bytes, the 8 words from word 8q on
unfoldable pub block_at : List ℕ → ℕ → List ℕ
unfolding words
block_at memory q = words memory (8 * q) 8

-- ---- storing

-- the memory with the word at a place replaced
unfoldable pub put : List ℕ → ℕ → List ℕ → List ℕ
put memory place bytes = take (8 * place) memory ++ bytes ++ drop (8 * place + 8) memory

-- one store of the supply: the place of a word, and its eight bytes
pub record Store : Type 0 where
  pub place : ℕ
  pub bytes : List ℕ

-- the memory after a list of stores, first to last; `lay (take p stores)` is the memory when the supply stops after p
unfoldable pub lay : List Store → List ℕ → List ℕ
unfolding put
lay [] memory = memory
lay (s ∷ stores) memory = lay stores (put memory s.place s.bytes)

-- the list that gives n words from a place on these bytes, eight by eight
unfoldable pub bytes_to : ℕ → ℕ → List ℕ → List Store
bytes_to place zero bytes = []
bytes_to place (suc n) bytes = record { place = place; bytes = take 8 bytes } ∷ bytes_to (suc place) n (drop 8 bytes)

-- the list that gives n words from a place on one byte throughout
unfoldable pub fill_to : ℕ → ℕ → ℕ → List Store
unfolding bytes_to
fill_to place n fill = bytes_to place n (replicate (8 * n) fill)

-- ---- numbers, little-endian

unfoldable pub number : List ℕ → ℕ
number [] = 0
number (b ∷ bytes) = b + 256 * number bytes

-- a number as n bytes
unfoldable pub little_endian : ℕ → ℕ → List ℕ
little_endian zero x = []
little_endian (suc n) x = x % 256 ∷ little_endian n (x / 256)

-- numbers as words
unfoldable pub number_bytes : List ℕ → List ℕ
unfolding little_endian
number_bytes [] = []
number_bytes (x ∷ xs) = little_endian 8 x ++ number_bytes xs

-- the list that gives the words from a place on these numbers
unfoldable pub numbers_to : ℕ → List ℕ → List Store
unfolding bytes_to number_bytes
numbers_to place xs = bytes_to place (length xs) (number_bytes xs)

-- the n numbers in the words from a place on
unfoldable pub numbers : List ℕ → ℕ → ℕ → List ℕ
unfolding number word
numbers memory place zero = []
numbers memory place (suc n) = number (word memory place) ∷ numbers memory (suc place) n

-- ---- what a function that lays a list promises

-- the first p stores of the list are laid in the memory, which leaves memory'; r is how many the whole list has
pub record Lays (p : ℕ) (stores : List Store) (memory memory' : List ℕ) (r : ℕ) : Type 0 where
  pub words : r ≡ length stores
  pub bytes : memory' ≡ lay (take p stores) memory
