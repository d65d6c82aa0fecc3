-- The reading of a text is what it says by the grammar: its lines, or the earliest record that is bad.
use mathlib.Core.Path.{◌≡◌, refl, sym, ◌∙◌, ap, subst}
use mathlib.Core.Logic.{◌⊎◌, inl, inr, ⊎_elim}
use mathlib.Core.List.{List, [], ◌∷◌, map}
use Prim.Native.Nat.{ℕ, zero, suc, ◌≤◌, ◌<◌}
use native.Mathlib.Omega.{arith}
use lib.ListN.{length, drop, length-drop}
use Rattle.rfc4180.specs.Grammar.{File, Begins, Pair, pair, values, rows}
use Rattle.rfc4180.specs.Promise.{Chain}
use Rattle.rfc4180.proofs.Records.{begins-some, chain-some}
use Rattle.rfc4180.proofs.Theorem.{csv-promise}
use Rattle.till.specs.Till.{Line, Front, front_of, Reading, in_front, read_behind, reading_of}
use Rattle.till.specs.Promise.{FitsLine, written, AllFit, Holds, Lines, Reaches, Broken, Wrong}
use Rattle.till.proofs.Fronts.{IsWrong, Is, front-is, line-front, wrong-front, broken-front}
use Rattle.till.proofs.Reading.{read-end, read-broken, read-wrong, read-line, read_some, read_none}

-- ---- what stands behind the lines of a text
-- a text that is left and begins with a bad record
record Behind (s rest : List ℕ) : Type 0 where
  before : List Line
  good : Lines s before rest
  left : 0 < length rest

abbrev BrokenAt : List ℕ → Type 0
BrokenAt s = (rest : List ℕ) × Behind s rest × Is rest Front.broken

abbrev WrongAt : List ℕ → Type 0
WrongAt s = (rest : List ℕ) × Behind s rest × IsWrong rest

abbrev Outcome : List ℕ → Reading → Type 0
Outcome s Reading.broken = BrokenAt s
Outcome s Reading.wrong = WrongAt s
Outcome s (Reading.lines ls) = Lines s ls []

one_more : {s next rest : List ℕ} (l : Line) → FitsLine l → Begins s (values (written l)) next → Behind next rest → Behind s rest
one_more l r b k = record { before = l ∷ k.before; good = Lines.more r b k.good; left = k.left }

outcome-more : (s next : List ℕ) (l : Line) (r : Reading) → FitsLine l → Begins s (values (written l)) next → Outcome next r → Outcome s (in_front l r)
outcome-more s next l Reading.broken h b (rest, k, f) = (rest, one_more l h b k, f)
outcome-more s next l Reading.wrong h b (rest, k, f) = (rest, one_more l h b k, f)
outcome-more s next l (Reading.lines ls) h b k = Lines.more h b k

here : (s : List ℕ) → 0 < length s → Behind s s
here s h = record { before = []; good = Lines.none; left = h }

outcome-by : (k : ℕ) (s : List ℕ) → 0 < length s → length s ≤ k → ((t : List ℕ) → length t < k → Outcome t (read_behind t 0)) → (x : Front) → front_of s ≡ x
    → Is s x → Outcome s (read_behind s 0)
outcome-by k s h l f Front.broken e i = rw (read-broken s h e) (s, here s h, i)
outcome-by k s h l f Front.wrong e i = rw (read-wrong s h e) (s, here s h, i)
outcome-by k s h l f (Front.front p n) e i =
    rw (read-line s h e)
    (outcome-more s (drop n s) p (read_behind (drop n s) 0) i.fit i.begins (f (drop n s) (omega (arith, length-drop n s, i.some))))

outcome-of : (k : ℕ) (s : List ℕ) → length s ≤ k → ((t : List ℕ) → length t < k → Outcome t (read_behind t 0)) → Outcome s (read_behind s 0)
outcome-of k [] h f = rw (read-end 0) Lines.none
outcome-of k (b ∷ s) h f = outcome-by k (b ∷ s) (omega arith) h f (front_of (b ∷ s)) refl (front-is (b ∷ s))

outcome-within : (k : ℕ) (s : List ℕ) → length s < k → Outcome s (read_behind s 0)
outcome-within zero s h = absurd (omega arith)
outcome-within (suc k) s h = outcome-of k s (omega arith) (λ t l. outcome-within k t (omega arith))

outcome : (s : List ℕ) → Outcome s (read_behind s 0)
outcome s = outcome-within (suc (length s)) s (omega arith)

-- ---- and only that
abbrev in_front_all : List Line → Reading → Reading
in_front_all [] r = r
in_front_all (l ∷ ls) r = in_front l (in_front_all ls r)

read-lines : {s rest : List ℕ} {ls : List Line} → Lines s ls rest → read_behind s 0 ≡ in_front_all ls (read_behind rest 0)
read-lines Lines.none = refl
read-lines (Lines.more {s} {next} {rest} {l} {ls} r b k) =
    let (n, e, d) = line-front s next l r b in
    read-line s (begins-some s (written l) b) e ∙ ap (λ (t : List ℕ). in_front l (read_behind t 0)) d ∙ ap (in_front l) (read-lines k)

all-broken : (ls : List Line) → in_front_all ls Reading.broken ≡ Reading.broken
all-broken [] = refl
all-broken (l ∷ ls) = ap (in_front l) (all-broken ls)

all-wrong : (ls : List Line) → in_front_all ls Reading.wrong ≡ Reading.wrong
all-wrong [] = refl
all-wrong (l ∷ ls) = ap (in_front l) (all-wrong ls)

all_lines : (ls : List Line) → in_front_all ls (Reading.lines []) ≡ Reading.lines ls
all_lines [] = refl
all_lines (l ∷ ls) = ap (in_front l) (all_lines ls)

-- a text with something left behind its lines is not empty
lines-some : {s rest : List ℕ} {ls : List Line} → Lines s ls rest → 0 < length rest → 0 < length s
lines-some Lines.none h = h
lines-some (Lines.more {s} {next} {rest} {l} r b k) h = begins-some s (written l) b

-- ---- broken, wrong
-- the place is the start of an empty text, or text is left there
reached : {C : Type 0} {s rest : List ℕ} (ls : List Line) → Lines s ls rest → (ls ≡ []) ⊎ (0 < length rest) → (s ≡ rest → length rest ≡ 0 → C)
    → (0 < length rest → C) → C
reached [] (Lines.none {s}) d f g = by_zero (length s) (f refl) g
  where
    by_zero : {D : Type 0} (n : ℕ) → (n ≡ 0 → D) → (0 < n → D) → D
    by_zero zero f g = f refl
    by_zero (suc n) f g = g (omega arith)
reached {rest = rest} (l ∷ ls) k d f g = ⊎_elim (λ (z : l ∷ ls ≡ []). cc) g d

pub broken-read : (s : List ℕ) → Broken s → reading_of s ≡ Reading.broken
broken-read s w =
    let ls = w.reaches.before in
    let k = w.reaches.good in
    reached ls k w.reaches.due
    (λ e h. read_none s (rw e h))
    (λ h.
    read_some s (lines-some k h)
    ∙ read-lines k
    ∙ ap (in_front_all ls) (read-broken w.rest h (broken-front w.rest w.no_record))
    ∙ all-broken ls)

pub wrong-read : (s : List ℕ) → Wrong s → reading_of s ≡ Reading.wrong
wrong-read s w =
    let is : IsWrong w.rest = record { first = w.first; second = w.second; next = w.next; begins = w.begins; no_number = w.no_number } in
    let h : 0 < length w.rest = begins-some w.rest (pair w.first w.second) w.begins in
    let k = w.reaches.good in
    read_some s (lines-some k h)
    ∙ read-lines k
    ∙ ap (in_front_all w.reaches.before) (read-wrong w.rest h (wrong-front w.rest is))
    ∙ all-wrong w.reaches.before

reaches : {s rest : List ℕ} → Behind s rest → Reaches s rest
reaches k = record { before = k.before; good = k.good; due = inr k.left }

pub read-broken-is : (s : List ℕ) → reading_of s ≡ Reading.broken → Broken s
read-broken-is [] e =
    record { rest = []; reaches = record { before = []; good = Lines.none; due = inl refl }; no_record = λ p next b. omega (arith, begins-some [] p b) }
read-broken-is (b ∷ s) e =
    let (rest, k, f) = rw (sym (read_some (b ∷ s) (omega arith)) ∙ e) at (outcome (b ∷ s)) in
    record { rest = rest; reaches = reaches k; no_record = f }

pub read-wrong-is : (s : List ℕ) → reading_of s ≡ Reading.wrong → Wrong s
read-wrong-is [] e = let z : Reading.broken ≡ Reading.wrong = sym (read_none [] refl) ∙ e in cc
read-wrong-is (b ∷ s) e =
    let (rest, k, w) = rw (sym (read_some (b ∷ s) (omega arith)) ∙ e) at (outcome (b ∷ s)) in
    record {
      rest = rest;
      reaches = reaches k;
      first = w.first;
      second = w.second;
      next = w.next;
      begins = w.begins;
      no_number = w.no_number;
    }

-- ---- what a text says
lines_fit : {s rest : List ℕ} {ls : List Line} → Lines s ls rest → AllFit ls
lines_fit Lines.none = tt
lines_fit (Lines.more r b k) = (r, lines_fit k)

-- behind the last line stands nothing
chain-on : {s : List ℕ} (next : List ℕ) (l : Line) (ls : List Line) → Begins s (values (written l)) next → Lines next ls []
    → (0 < length next → Chain next (map written ls)) → Chain s (map written (l ∷ ls))
chain-on [] l [] b k f = Chain.last b
chain-on [] l (m ∷ ls) b (Lines.more {next = next} r c k) f = absurd (omega (arith, begins-some [] (written m) c))
chain-on (x ∷ t) l ls b k f = Chain.more b (f (omega arith))

lines-chain : {s rest : List ℕ} {ls : List Line} → Lines s ls rest → rest ≡ [] → 0 < length s → Chain s (map written ls)
lines-chain Lines.none e h = absurd (omega (arith, ap length e))
lines-chain (Lines.more {s} {next} {rest} {l} {ls} r b k) e h =
    chain-on next l ls b (subst (λ (t : List ℕ). Lines next ls t) e k) (lines-chain k e)

chain-lines : {s : List ℕ} {ps : List Pair} → Chain s ps → (ls : List Line) → map written ls ≡ ps → AllFit ls → Lines s ls []
chain-lines (Chain.last b) [] e r = cc
chain-lines (Chain.last {s} {p} b) (l ∷ []) e (r, _) =
    let q : written l ≡ p = cc in
    Lines.more r (subst (λ (x : Pair). Begins s (values x) []) (sym q) b) Lines.none
chain-lines (Chain.last b) (l ∷ m ∷ ls) e r = cc
chain-lines (Chain.more b k) [] e r = cc
chain-lines (Chain.more {s} {next} {p} {ps} b k) (l ∷ ls) e (r, rs) =
    let q : written l ≡ p = cc in
    let qs : map written ls ≡ ps = cc in
    Lines.more r (subst (λ (x : Pair). Begins s (values x) next) (sym q) b) (chain-lines k ls qs rs)

pub holds_read : (s : List ℕ) (ls : List Line) → Holds s ls → reading_of s ≡ Reading.lines ls
holds_read s ls y =
    let c = (csv-promise.chain s (map written ls)).0 y.file in
    read_some s (chain-some c) ∙ read-lines (chain-lines c ls refl y.fit) ∙ ap (in_front_all ls) (read-end 0) ∙ all_lines ls

pub read-holds : (s : List ℕ) (ls : List Line) → reading_of s ≡ Reading.lines ls → Holds s ls
read-holds [] ls e = let z : Reading.broken ≡ Reading.lines ls = sym (read_none [] refl) ∙ e in cc
read-holds (b ∷ s) ls e =
    let k : Lines (b ∷ s) ls [] = rw (sym (read_some (b ∷ s) (omega arith)) ∙ e) at (outcome (b ∷ s)) in
    record { file = (csv-promise.chain (b ∷ s) (map written ls)).1 (lines-chain k refl (omega arith)); fit = lines_fit k }

-- ---- a file of records of two fields
front-broken : (l : Line) (r : Reading) → in_front l r ≡ Reading.broken → r ≡ Reading.broken
front-broken l Reading.broken e = refl
front-broken l Reading.wrong e = cc
front-broken l (Reading.lines ls) e = cc

-- its first record is a line, or wrong; and if what is behind a line is not broken, it is not
unbroken-by : (s next : List ℕ) (p : Pair) → Begins s (values p) next → (read_behind next 0 ≡ Reading.broken → ⊥) → (x : Front) → front_of s ≡ x → Is s x
    → read_behind s 0 ≡ Reading.broken → ⊥
unbroken-by s next p b f Front.broken e i = λ z. i p next b
unbroken-by s next p b f Front.wrong e i = λ z.
    let q : Reading.wrong ≡ Reading.broken = sym (read-wrong s (begins-some s p b) e) ∙ z in
    cc
unbroken-by s next p b f (Front.front l n) e i = λ z.
    let same = (csv-promise.one_record s (values p) (values (written l)) next (drop n s) b i.begins).1 in
    f (ap (λ (t : List ℕ). read_behind t 0) same ∙ front-broken l (read_behind (drop n s) 0) (sym (read-line s (begins-some s p b) e) ∙ z))

read-ended : (s : List ℕ) → s ≡ [] → read_behind s 0 ≡ Reading.broken → ⊥
read-ended s e z = let q : Reading.lines [] ≡ Reading.broken = sym (read-end 0) ∙ ap (λ (t : List ℕ). read_behind t 0) (sym e) ∙ z in cc

chain-unbroken : {s : List ℕ} {ps : List Pair} → Chain s ps → read_behind s 0 ≡ Reading.broken → ⊥
chain-unbroken (Chain.last {s} {p} b) = unbroken-by s [] p b (read-ended [] refl) (front_of s) refl (front-is s)
chain-unbroken (Chain.more {s} {next} {p} b k) = unbroken-by s next p b (chain-unbroken k) (front_of s) refl (front-is s)

pub file-unbroken : (s : List ℕ) (ps : List Pair) → File s (rows ps) → reading_of s ≡ Reading.broken → ⊥
file-unbroken s ps f z =
    let c = (csv-promise.chain s ps).0 f in
    chain-unbroken c (sym (read_some s (chain-some c)) ∙ z)
