-- What the rule makes of labels and prices, as sentences: for every number of cells, home rule and rule for labels.
use Rattle.std.specs.Prelude.{◌≡◌, ◌≢◌, ℕ, ◌≤◌, ◌<◌}
use Rattle.ring.specs.Ring.{next, prev}
use Rattle.prices.specs.Contents.{price}
use Rattle.activities.specs.declared.Activity.TheVariants.{Reading, Replacing, WalkingBack, SeekingForward, SeekingBack}
use Rattle.rule.specs.Rule.{goes, ends, rule}
use Rattle.rule.specs.declared.Answer.TheVariants.{Finished, Price, No}

-- a worker carries v or works for its label; the cell that it touches holds c
pub record Pricing (n : ℕ) (key home : ℕ → ℕ) : Type 0 where
  -- precedence goes by label: a greater one sends a worker of any kind to the next cell, whatever the prices
  pub greater : (k v i c : ℕ) → key v < key c → rule k n key home (Reading v i) c ≡ goes (Reading v (next n i)) c
  -- ---- insert: a smaller label is replaced and carried on from the next cell
  pub smaller : (v i c : ℕ) → key c < key v → rule 1 n key home (Reading v i) c ≡ goes (Replacing v i i c) c
  pub displaces : (v i j x : ℕ) → key x ≢ 0 → key x ≢ key v → rule 1 n key home (Replacing v i j x) x ≡ goes (Reading x (next n i)) v
  -- its own label at no higher price finishes
  pub settles : (v i c : ℕ) → key c ≡ key v → c ≤ v → rule 1 n key home (Reading v i) c ≡ ends Finished c
  -- at a higher price it is replaced, and that finishes
  pub dearer : (v i c : ℕ) → key c ≡ key v → v < c → rule 1 n key home (Reading v i) c ≡ goes (Replacing v i i c) c
  pub lowered : (v i j x : ℕ) → key x ≡ key v → v < x → rule 1 n key home (Replacing v i j x) x ≡ ends Finished v
  -- a forged record may replace it at no higher price: then it is carried on as any label is
  pub carried : (v i j x : ℕ) → key x ≡ key v → key x ≢ 0 → x ≤ v → rule 1 n key home (Replacing v i j x) x ≡ goes (Reading x (next n i)) v
  -- a content without a label is empty: it is replaced, and that finishes
  pub vacant : (v i c : ℕ) → key v ≢ 0 → key c ≡ 0 → rule 1 n key home (Reading v i) c ≡ goes (Replacing v i i c) c
  pub filled : (v i j x : ℕ) → key x ≡ 0 → rule 1 n key home (Replacing v i j x) x ≡ ends Finished v
  -- contents are compared whole: another one, whatever its label, makes the replace step fail
  pub insert_fails : (v i j x c : ℕ) → c ≢ x → rule 1 n key home (Replacing v i j x) c ≡ goes (Reading v i) c
  pub delete_fails : (v k j x c : ℕ) → c ≢ v → rule 2 n key home (Replacing v k j x) c ≡ goes (WalkingBack v k) c
  -- ---- delete: a label that isn't greater, or none, turns it back; at the home any but its own finishes
  pub turns_back : (v i c : ℕ) → key c ≤ key v → rule 2 n key home (Reading v i) c ≡ goes (WalkingBack v i) c
  pub walks_back : (v k c : ℕ) → key c ≢ key v → k ≢ home (key v) → rule 2 n key home (WalkingBack v k) c ≡ goes (WalkingBack v (prev n k)) c
  pub gone : (v c : ℕ) → key c ≢ key v → rule 2 n key home (WalkingBack v (home (key v))) c ≡ ends Finished c
  -- at its label it seeks a replacement for the content that it reads there, whatever the price
  pub seeks : (v k c : ℕ) → key c ≡ key v → rule 2 n key home (WalkingBack v k) c ≡ goes (SeekingForward c k (next n k)) c
  -- a content without a label serves as one, on the way forward and on the way back, and is copied as 0
  pub serves : (v k j c : ℕ) → key c ≡ 0 → prev n j ≢ k → rule 2 n key home (SeekingForward v k j) c ≡ goes (SeekingBack (prev n j) v k j c) c
  pub serves_last : (v k j c : ℕ) → key c ≡ 0 → prev n j ≡ k → rule 2 n key home (SeekingForward v k j) c ≡ goes (Replacing v k j c) c
  pub nearer : (p v k j x c : ℕ) → key c ≡ 0 → prev n p ≢ k → rule 2 n key home (SeekingBack p v k j x) c ≡ goes (SeekingBack (prev n p) v k p c) c
  pub nearer_last : (p v k j x c : ℕ) → key c ≡ 0 → prev n p ≡ k → rule 2 n key home (SeekingBack p v k j x) c ≡ goes (Replacing v k p c) c
  pub copied : (v k j x : ℕ) → key x ≡ 0 → rule 2 n key home (Replacing v k j x) v ≡ ends Finished 0
  -- ---- find: its label answers the price that stands there, whatever price was ordered; a smaller label, or none, answers no
  pub answers : (v i c : ℕ) → key c ≡ key v → rule 3 n key home (Reading v i) c ≡ ends (Price (price c)) c
  pub misses : (v i c : ℕ) → key c < key v → rule 3 n key home (Reading v i) c ≡ ends No c

abbrev pub PricingPromise : Type 0
PricingPromise = (n : ℕ) (key home : ℕ → ℕ) → Pricing n key home
