-- What is read off a worker's activity, and which activities a worker of a phase may have.
use Rattle.std.specs.Prelude.{◌≡◌, ◌≢◌, Bool, true, false, cond, List, [], ◌∷◌, ℕ, ◌<◌, ltb, eqb}
use Rattle.activities.specs.declared.Activity.{Activity}
use Rattle.activities.specs.declared.Activity.TheVariants.{Idle, Reading, Replacing, WalkingBack, SeekingForward, SeekingBack}
use Rattle.activities.specs.declared.Worker.{Worker}

abbrev pub idle : Worker
idle = record { activity = Idle }

-- ---- of each activity
abbrev pub is_idle : Activity → Bool
is_idle Idle = true
is_idle (Reading v i) = false
is_idle (Replacing v k j x) = false
is_idle (WalkingBack v k) = false
is_idle (SeekingForward v k j) = false
is_idle (SeekingBack p v k j x) = false

-- the entry that it carries, or for whose key it works, 0 if idle
abbrev pub entry_of : Activity → ℕ
entry_of Idle = 0
entry_of (Reading v i) = v
entry_of (Replacing v k j x) = v
entry_of (WalkingBack v k) = v
entry_of (SeekingForward v k j) = v
entry_of (SeekingBack p v k j x) = v

-- the cells that it names
abbrev pub cells_of : Activity → List ℕ
cells_of Idle = []
cells_of (Reading v i) = i ∷ []
cells_of (Replacing v k j x) = k ∷ j ∷ []
cells_of (WalkingBack v k) = k ∷ []
cells_of (SeekingForward v k j) = k ∷ j ∷ []
cells_of (SeekingBack p v k j x) = k ∷ j ∷ p ∷ []

-- the kind of phase has it: insert reads on or replaces, find reads on, delete does all four
abbrev pub kind_has : ℕ → Activity → Bool
kind_has kind Idle = true
kind_has kind (Reading v i) = true
kind_has kind (Replacing v k j x) = cond (eqb kind 3) false true
kind_has kind (WalkingBack v k) = eqb kind 2
kind_has kind (SeekingForward v k j) = eqb kind 2
kind_has kind (SeekingBack p v k j x) = eqb kind 2

-- ---- of all alike
-- 1 if the worker has an unfinished operation, else 0
abbrev pub busy : Activity → ℕ
busy a = cond (is_idle a) 0 1

-- every cell is below n
abbrev pub all_below : ℕ → List ℕ → Bool
all_below n [] = true
all_below n (c ∷ cs) = cond (ltb c n) (all_below n cs) false

-- a worker may have it in a phase of a kind with n cells: it is idle, or the kind has it, it works for a key, not 0, and its cells are below n; its
-- price may be any. The test for ill-formed records (document 01: spoilt) and the promise that none arises share it. `key` gives the key of an entry
abbrev pub activity_ok : ℕ → ℕ → (ℕ → ℕ) → Activity → Bool
activity_ok kind n key a = cond (is_idle a) true (cond (kind_has kind a) (cond (eqb (key (entry_of a)) 0) false (all_below n (cells_of a))) false)

-- ---- the same as a sentence, written out for each activity, so that a wrong list of cells, key or kind above would be noticed
-- a worker works for a key, not 0, every cell number is below n, only find has no replacing, and only delete walks back and seeks
abbrev pub Suits : ℕ → ℕ → (ℕ → ℕ) → Activity → Type 0
Suits kind n key Idle = Unit {0}
Suits kind n key (Reading v i) = (key v ≢ 0) × (i < n)
Suits kind n key (Replacing v k j x) = (kind ≢ 3) × (key v ≢ 0) × (k < n) × (j < n)
Suits kind n key (WalkingBack v k) = (kind ≡ 2) × (key v ≢ 0) × (k < n)
Suits kind n key (SeekingForward v k j) = (kind ≡ 2) × (key v ≢ 0) × (k < n) × (j < n)
Suits kind n key (SeekingBack p v k j x) = (kind ≡ 2) × (key v ≢ 0) × (k < n) × (j < n) × (p < n)

-- ---- what a step asks for: every cell of the activity is below n
abbrev pub Below : ℕ → List ℕ → Type 0
Below n [] = Unit {0}
Below n (c ∷ cs) = (c < n) × Below n cs
