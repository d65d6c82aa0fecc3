-- Fields that begin with digits: behind the digits, the field ends or goes on with a byte that is none.
use Rattle.std.specs.Prelude.{Option, Some, None}
use mathlib.Core.Path.{◌≡◌, refl, sym, ◌∙◌, ap}
use mathlib.Core.Bool.{true, false, and-false}
use mathlib.Core.List.{List, [], ◌∷◌, ◌++◌, append-nil}
use Prim.Native.Nat.{ℕ, suc, ◌+◌, ◌-◌, ◌≤◌, ◌<◌}
use native.Mathlib.Omega.{arith}
use lib.Dec.{eqb}
use lib.ListN.{length, drop}
use lib.Seq.{drop-drop}
use Rattle.text.specs.declared.Run.{Run}
use Rattle.text.specs.Numbers.{digits, is_number, number_of, digits_in, leading, run_at}
use Rattle.text.proofs.Test.{by-test}
use Rattle.text.proofs.Values.{digits_append, below-digits, no-digits}
use Rattle.text.proofs.Runs.{run-nil, run_more, by-digit, length-leading, run-over, no_digit, run-parts}
use Rattle.rfc4180.specs.Grammar.{TextData}
use Rattle.rfc4180.specs.Reader.{is_text, is_inside, Scan, push, skip, plain_of, inside_of}
use Rattle.rfc4180.proofs.Bytes.{is-text, text-no-quote, text-inside}
use Rattle.rfc4180.proofs.Laws.{plain-nil, plain_more, plain-stop, inside-nil, inside-last, inside-close, inside-two, inside-break, inside-more}
use Rattle.splitting.specs.Fields.{end_from, field_from}

-- ---- a byte more in front
pub end-nothing : (at : ℕ) → end_from at (Scan.found [] 0) ≡ Some at
end-nothing at = let e : at + 0 ≡ at = omega arith in rw e

pub end-push : (at b : ℕ) (x : Scan) → end_from at (push b x) ≡ end_from (suc at) x
end-push at b Scan.broken = refl
end-push at b (Scan.found v n) = let e : at + suc n ≡ suc at + n = omega arith in rw e

pub end-skip : (at : ℕ) (x : Scan) → end_from at (skip x) ≡ end_from (suc at) x
end-skip at Scan.broken = refl
end-skip at (Scan.found v n) = let e : at + suc n ≡ suc at + n = omega arith in rw e

pub field_skip : (at : ℕ) (x : Scan) → field_from at (skip x) ≡ field_from (suc at) x
field_skip at Scan.broken = refl
field_skip at (Scan.found v n) = let e : at + suc n ≡ suc at + n = omega arith in rw e

-- what a loop keeps that goes over a field: from here on, it ends where it ends from the start
pub record Going (scan : List ℕ → Scan) (text : List ℕ) (goal : Option ℕ) (at : ℕ) : Type 0 where
  pub same : end_from at (scan (drop at text)) ≡ goal

-- ---- what is scanned where no digit stands
-- a scan takes at least k bytes
unfoldable Takes : ℕ → Scan → Type 0
Takes k Scan.broken = Unit {0}
Takes k (Scan.found v n) = k ≤ n

-- it is nothing, in k bytes; or a value that begins with no digit, in more
data Behind (k : ℕ) : Scan → Type 0 where
  broken : Behind k Scan.broken
  nothing : Behind k (Scan.found [] k)
  other : (v : List ℕ) (n : ℕ) → digits v ≡ false → k < n → Behind k (Scan.found v n)

-- a way to scan fields that takes digits for bytes of the value; so many bytes end a field
pub record Scanner (scan : List ℕ → Scan) (k : ℕ) : Type 0 where
  more : (b : ℕ) (s : List ℕ) → 48 ≤ b → b ≤ 57 → scan (b ∷ s) ≡ push b (scan s)
  behind : (s : List ℕ) → digits_in s ≡ 0 → Behind k (scan s)

digit-text : {b : ℕ} → 48 ≤ b → b ≤ 57 → TextData b
digit-text {b} l u = TextData.high {b = b} (omega arith) (omega arith)

push-other : (k b : ℕ) (x : Scan) → Takes k x → ((v : List ℕ) → digits (b ∷ v) ≡ false) → Behind k (push b x)
unfolding Takes
push-other k b Scan.broken t d = Behind.broken
push-other k b (Scan.found v n) t d = Behind.other (b ∷ v) (suc n) (d v) (omega arith)

-- ---- without quotes
takes_none : (x : Scan) → Takes 0 x
unfolding Takes
takes_none Scan.broken = tt
takes_none (Scan.found v n) = omega arith

plain-behind : (s : List ℕ) → digits_in s ≡ 0 → Behind 0 (plain_of s)
plain-behind [] z = rw plain-nil Behind.nothing
plain-behind (b ∷ s) z = by-test (is_text b)
    (λ t. rw (plain_more b s t) (push-other 0 b (plain_of s) (takes_none (plain_of s)) (λ v. no_digit b s v z)))
    (λ t. rw (plain-stop b s t) Behind.nothing)

pub plain-scanner : Scanner plain_of 0
plain-scanner = record { more = λ b s l u. plain_more b s (is-text (digit-text l u)); behind = plain-behind }

-- ---- between quotes
-- a quote that closes or is doubled, a byte of the value, or one that is not allowed
by-inside : (P : Scan → Type 0) (b : ℕ) (s : List ℕ) → P Scan.broken → P (Scan.found [] 1) → ((x : Scan) → P (skip (push 0x22 x))) → P (push b (inside_of s))
    → P (inside_of (b ∷ s))
by-inside P b s none closed doubled more = by-test (eqb b 0x22)
    (λ q. at-quote s q)
    (λ q. by-test (is_inside b) (λ t. rw (inside-more b s q t) more) (λ t. rw (inside-break b s q t) none))
  where
    at-quote : (s : List ℕ) → eqb b 0x22 ≡ true → P (inside_of (b ∷ s))
    at-quote [] q = rw (inside-last b q) closed
    at-quote (c ∷ s) q = by-test (eqb c 0x22) (λ t. rw (inside-two b c s q t) (doubled (inside_of s))) (λ t. rw (inside-close b c s q t) closed)

takes-push : (b : ℕ) (x : Scan) → Takes 1 (push b x)
unfolding Takes
takes-push b Scan.broken = tt
takes-push b (Scan.found v n) = omega arith

takes_skip : (x : Scan) → Takes 1 (skip x)
unfolding Takes
takes_skip Scan.broken = tt
takes_skip (Scan.found v n) = omega arith

inside-takes : (s : List ℕ) → Takes 1 (inside_of s)
unfolding Takes
inside-takes [] = rw inside-nil tt
inside-takes (b ∷ s) = by-inside (Takes 1) b s tt (omega arith) (λ x. takes_skip (push 0x22 x)) (takes-push b (inside_of s))

two-other : (x : Scan) → Behind 1 (skip (push 0x22 x))
two-other Scan.broken = Behind.broken
two-other (Scan.found v n) = Behind.other (0x22 ∷ v) (suc (suc n)) (below-digits 0x22 v (omega arith)) (omega arith)

inside-behind : (s : List ℕ) → digits_in s ≡ 0 → Behind 1 (inside_of s)
inside-behind [] z = rw inside-nil Behind.broken
inside-behind (b ∷ s) z = by-inside (Behind 1) b s Behind.broken Behind.nothing two-other (push-other 1 b (inside_of s) (inside-takes s) (λ v. no_digit b s v z))

pub inside-scanner : Scanner inside_of 1
inside-scanner = record {
  more = λ b s l u. let t = digit-text l u in inside-more b s (text-no-quote t) (text-inside b (is-text t));
  behind = inside-behind;
}

-- ---- digits in front
pushed : List ℕ → Scan → Scan
pushed u Scan.broken = Scan.broken
pushed u (Scan.found v n) = Scan.found (u ++ v) (length u + n)

pushed-nil : (x : Scan) → x ≡ pushed [] x
unfolding pushed
pushed-nil Scan.broken = refl
pushed-nil (Scan.found v n) = let e : 0 + n ≡ n = omega arith in rw e

pushed_more : (b : ℕ) (u : List ℕ) (x : Scan) → push b (pushed u x) ≡ pushed (b ∷ u) x
unfolding pushed
pushed_more b u Scan.broken = refl
pushed_more b u (Scan.found v n) = let e : suc (length u + n) ≡ length (b ∷ u) + n = omega arith in rw e

module _ {scan : List ℕ → Scan} {k : ℕ} (f : Scanner scan k) where
  scan-digits : (s : List ℕ) → scan s ≡ pushed (leading s) (scan (drop (digits_in s) s))
  scan-digits [] = rw run-nil (pushed-nil (scan []))
  scan-digits (b ∷ s) = by-digit b
      (λ l u. rw (run_more b s l u) (f.more b s l u ∙ ap (push b) (scan-digits s) ∙ pushed_more b (leading s) (scan (drop (digits_in s) s))))
      (λ z. rw (z s).0 (pushed-nil (scan (b ∷ s))))

-- ---- the end and the number of a field, from those of its digits
end_on : (at : ℕ) (x : Scan) {end : ℕ} → Some end ≡ end_from at x → at ≤ end
end_on at Scan.broken {end} e = cc
end_on at (Scan.found v n) {end} e = let q : end ≡ at + n = cc in omega arith

unclosed : (at behind : ℕ) (u : List ℕ) (x : Scan) → None ≡ end_from behind x → None ≡ field_from at (pushed u x)
unfolding pushed
unclosed at behind u Scan.broken e = refl
unclosed at behind u (Scan.found v n) e = cc

not-digits : (u v : List ℕ) → digits v ≡ false → is_number (u ++ v) ≡ false
not-digits u v d = no-digits (u ++ v) (digits_append u v ∙ rw d (and-false (digits u)))

module _ (k at behind : ℕ) (u : List ℕ) (place : behind ≡ at + length u) {end : ℕ} where
  longer : {x : Scan} → Behind k x → Some end ≡ end_from behind x → behind + k < end → Some (record { number = None; end = end }) ≡ field_from at (pushed u x)
  unfolding pushed
  longer Behind.broken e h = cc
  longer Behind.nothing e h = let q : end ≡ behind + k = cc in absurd (omega arith)
  longer (Behind.other v n d l) e h =
      let q : end ≡ behind + n = cc in
      let w : end ≡ at + (length u + n) = omega arith in
      rw (not-digits u v d, w)

  digits-only : {x : Scan} → Behind k x → Some end ≡ end_from behind x → end ≤ behind + k → Some (record { number = number_of u; end = end }) ≡ field_from at (pushed u x)
  unfolding pushed
  digits-only Behind.broken e h = cc
  digits-only Behind.nothing e h =
      let q : end ≡ behind + k = cc in
      let w : end ≡ at + (length u + k) = omega arith in
      rw (append-nil u, w)
  digits-only (Behind.other v n d l) e h = let q : end ≡ behind + n = cc in absurd (omega arith)

module _ {scan : List ℕ → Scan} {k : ℕ} (f : Scanner scan k) (text : List ℕ) (at : ℕ) {r : Run} (p : r ≡ run_at text at) where
  place : r.end ≡ at + length (leading (drop at text))
  place = (run-parts text at p).1 ∙ rw (length-leading (drop at text))

  rest : drop (digits_in (drop at text)) (drop at text) ≡ drop r.end text
  rest = drop-drop (digits_in (drop at text)) at text ∙ ap (λ (q : ℕ). drop q text) (sym (run-parts text at p).1)

  parted : pushed (leading (drop at text)) (scan (drop r.end text)) ≡ scan (drop at text)
  parted = sym (scan-digits f (drop at text) ∙ ap (λ (t : List ℕ). pushed (leading (drop at text)) (scan t)) rest)

  rest-behind : Behind k (scan (drop r.end text))
  rest-behind = f.behind (drop r.end text) (sym (ap digits_in rest) ∙ run-over (drop at text))

  pub field-broken : None ≡ end_from r.end (scan (drop r.end text)) → None ≡ field_from at (scan (drop at text))
  field-broken e = unclosed at r.end _ _ e ∙ ap (field_from at) parted

  module _ {end : ℕ} (e : Some end ≡ end_from r.end (scan (drop r.end text))) where
    pub field-on : r.end ≤ end
    field-on = end_on r.end (scan (drop r.end text)) e

    pub field-longer : r.end + k < end → Some (record { number = None; end = end }) ≡ field_from at (scan (drop at text))
    field-longer h = longer k at r.end _ place rest-behind e h ∙ ap (field_from at) parted

    pub field-digits : end ≤ r.end + k → Some (record { number = r.number; end = end }) ≡ field_from at (scan (drop at text))
    field-digits h =
        ap (λ (n : Option ℕ). Some (record { number = n; end = end })) (run-parts text at p).0
        ∙ digits-only k at r.end _ place rest-behind e h
        ∙ ap (field_from at) parted

-- ---- the two scans
module _ (text : List ℕ) (at end : ℕ) (r : Run) (p : r ≡ run_at text at) where
  pub plain-longer : Some end ≡ end_from r.end (plain_of (drop r.end text)) → r.end < end → Some (record { number = None; end = end }) ≡ field_from at (plain_of (drop at text))
  plain-longer e h = field-longer plain-scanner text at p e (omega arith)

  pub plain-whole : Some end ≡ end_from r.end (plain_of (drop r.end text)) → end ≤ r.end → Some (record { number = r.number; end = end }) ≡ field_from at (plain_of (drop at text))
  plain-whole e h = field-digits plain-scanner text at p e (omega arith)

  pub quoted-longer : Some end ≡ end_from r.end (inside_of (drop r.end text)) → 1 < end - r.end → Some (record { number = None; end = end }) ≡ field_from at (inside_of (drop at text))
  quoted-longer e h = field-longer inside-scanner text at p e (omega arith)

  pub quoted-whole : Some end ≡ end_from r.end (inside_of (drop r.end text)) → end - r.end ≤ 1 → Some (record { number = r.number; end = end }) ≡ field_from at (inside_of (drop at text))
  quoted-whole e h = field-digits inside-scanner text at p e (omega arith)

pub ruleset field_rules = (plain-longer, plain-whole, quoted-longer, quoted-whole)
