-- Document 01, "Session and log records": numbers are most significant byte first.
-- Assumes nothing.
use Rattle.std.specs.Prelude.{ℕ, ◌%◌, ◌*◌, ◌+◌, ◌/◌, get_or, List, [], ◌∷◌}

-- ---- the number in one, two, three and four bytes from byte k on
abbrev pub byte : List ℕ → (k : ℕ) → ℕ
byte bytes k = get_or bytes k 0

abbrev pub word : List ℕ → (k : ℕ) → ℕ
word bytes k = byte bytes k * 256 + byte bytes (k + 1)

abbrev pub triple : List ℕ → (k : ℕ) → ℕ
triple bytes k = word bytes k * 256 + byte bytes (k + 2)

abbrev pub quad : List ℕ → (k : ℕ) → ℕ
quad bytes k = word bytes k * 65536 + word bytes (k + 2)

-- ---- a number in two and in four bytes
abbrev pub bytes2 : ℕ → List ℕ
bytes2 n = n / 256 ∷ n % 256 ∷ []

abbrev pub bytes4 : ℕ → List ℕ
bytes4 n = n / 16777216 ∷ n / 65536 % 256 ∷ n / 256 % 256 ∷ n % 256 ∷ []
