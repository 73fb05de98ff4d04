-- Row sums, codewords, and agreeing with a block that has erasures.
-- A block is read by place, as a function from places to symbols; a buffer's list v is read by `at v`.
use Rattle.std.specs.Prelude.{◌≡◌, ◌≢◌, cond, List, ℕ, ◌*◌, ◌/◌, ◌%◌, ◌^◌, ◌<◌, length, get_or}
use Rattle.math.specs.Members.{◌∈◌, is_in}
use Rattle.math.specs.Sums.{xor_over, sum_over, only}
use Rattle.plan.specs.Layout.{Layout}
use Rattle.code.specs.Places.{places, meets, matrix}

-- the symbol at a place of a buffer
abbrev pub at : List ℕ → ℕ → ℕ
at v c = get_or v c 0

-- the sum of row r (its syndrome): over all places that meet it
unfoldable pub syndrome : Layout → (ℕ → ℕ) → ℕ → ℕ
syndrome L v r = xor_over (places L) (λ c. only (meets L c r) (v c))

-- "A codeword is a block of n × t symbols in which every row sums to 0." "A symbol is a byte."
pub record Codeword (L : Layout) (v : List ℕ) : Type 0 where
  pub whole : length v ≡ L.n * L.t
  pub symbols : (c : ℕ) → at v c < 256
  pub sums : (r : ℕ) → r < 2 * L.t → syndrome L (at v) r ≡ 0

-- bit b of a number
unfoldable pub bit_of : ℕ → ℕ → ℕ
bit_of b x = x / 2 ^ b % 2

-- row r of H x over GF(2), H being matrix (1) and x the bits b of the block
unfoldable pub product : Layout → (ℕ → ℕ) → ℕ → ℕ → ℕ
product L v b r = sum_over (places L) (λ c. matrix L r c * bit_of b (v c)) % 2

-- Erasures E are a list of places (01: marked places).
-- "A codeword agrees with a marked block if it equals the block at each unmarked place."
pub record Agrees (L : Layout) (E : List ℕ) (v w : List ℕ) : Type 0 where
  pub codeword : Codeword L w
  pub unmarked : (c : ℕ) → c < L.n * L.t → ¬ (c ∈ E) → at w c ≡ at v c

-- how many things have a property: a single one, two or more, none
pub record Single {A : Type 0} (P : A → Type 0) : Type 0 where
  pub one : A
  pub has : P one
  pub only_one : (x : A) → P x → x ≡ one

pub record TwoOrMore {A : Type 0} (P : A → Type 0) : Type 0 where
  pub one : A
  pub other : A
  pub has : P one
  pub other_has : P other
  pub differ : one ≢ other

abbrev pub None : {A : Type 0} → (A → Type 0) → Type 0
None {A} P = (x : A) → ¬ (P x)

-- the block with its erasures set to 0, so that a sum over it is a sum over the unmarked places
unfoldable pub blank : List ℕ → (ℕ → ℕ) → ℕ → ℕ
blank E v c = cond (is_in c E) 0 (v c)
