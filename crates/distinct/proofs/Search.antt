-- The search for a key, step by step.
use mathlib.Core.Path.{◌≡◌, refl, sym, ap, ◌∙◌}
use mathlib.Core.Logic.{◌≢◌}
use mathlib.Core.List.{List}
use Prim.Native.Nat.{ℕ, zero, suc, ◌+◌, ◌-◌, ◌/◌, ◌%◌, ◌≤◌, ◌<◌}
use native.Mathlib.Omega.{arith}
use lib.ListN.{get_or}
use borrow.Author.Tests.{eq-eqb, ne_eqb, lt-ltb, le-ltb, lt-leb, le-leb}
use Rattle.distinct.specs.Trie.{root_of, key_at, seek, link_of}

pub root-low : (x : ℕ) → root_of x < 16384
unfolding root_of
root-low x = omega arith

-- at `at` is a link to the node of y
pub record Hit (t : List ℕ) (y at : ℕ) : Type 0 where
  pub up : at < get_or t at 0
  pub low : get_or t at 0 < 32768
  pub is : key_at t (get_or t at 0) ≡ y

module _ (t : List ℕ) (y : ℕ) where
  pub stop-none : (f bits at : ℕ) → get_or t at 0 ≤ at → seek t y f bits at ≡ at
  unfolding seek
  stop-none zero bits at l = refl
  stop-none (suc f) bits at l = rw (le-ltb at (get_or t at 0) l) refl

  pub stop-far : (f bits at : ℕ) → at < get_or t at 0 → 32768 ≤ get_or t at 0 → seek t y f bits at ≡ at
  unfolding seek
  stop-far zero bits at u l = refl
  stop-far (suc f) bits at u l = rw (lt-ltb at (get_or t at 0) u, le-leb 32768 (get_or t at 0) l) refl

  pub stop-hit : (f bits at : ℕ) → Hit t y at → seek t y f bits at ≡ at
  unfolding seek
  stop-hit zero bits at h = refl
  stop-hit (suc f) bits at h = rw (lt-ltb at (get_or t at 0) h.up, lt-leb 32768 (get_or t at 0) h.low, eq-eqb (key_at t (get_or t at 0)) y h.is) refl

  pub pass : (f bits at : ℕ) → at < get_or t at 0 → get_or t at 0 < 32768 → key_at t (get_or t at 0) ≢ y
      → seek t y (suc f) bits at ≡ seek t y f (bits / 2) (get_or t at 0 + bits % 2)
  unfolding seek
  pass f bits at u l n = rw (lt-ltb at (get_or t at 0) u, lt-leb 32768 (get_or t at 0) l, ne_eqb (key_at t (get_or t at 0)) y n) refl

  -- the search has come to `at`
  pub record Seeking (at bits link : ℕ) : Type 0 where
    pub low : at < 40960
    pub here : link ≡ get_or t at 0
    pub left : ℕ
    pub enough : 32768 ≤ at + left
    pub rest : link_of t y ≡ seek t y left bits at

  pub seeking-start : (at link : ℕ) → at ≡ root_of y → at < 16384 → link ≡ get_or t at 0 → Seeking at y link
  unfolding link_of
  seeking-start at link e l h = record { low = omega arith; here = h; left = 32768; enough = omega arith; rest = rw (← e) refl }

  pub seeking-none : (at bits link : ℕ) → Seeking at bits link → link ≤ at → at ≡ link_of t y
  seeking-none at bits link s l = sym (s.rest ∙ stop-none s.left bits at (omega (arith, s.here)))

  pub seeking-far : (at bits link : ℕ) → Seeking at bits link → at < link → 32768 ≤ link → at ≡ link_of t y
  seeking-far at bits link s u l = sym (s.rest ∙ stop-far s.left bits at (omega (arith, s.here)) (omega (arith, s.here)))

  pub seeking-hit : (at bits link : ℕ) → Seeking at bits link → at < link → link < 32768 → key_at t link ≡ y → at ≡ link_of t y
  seeking-hit at bits link s u l e =
      sym (s.rest ∙ stop-hit s.left bits at (record { up = omega (arith, s.here); low = omega (arith, s.here); is = ap (key_at t) (sym s.here) ∙ e }))

  next : (f g bits at : ℕ) → f ≡ suc g → at < get_or t at 0 → get_or t at 0 < 32768 → key_at t (get_or t at 0) ≢ y
      → seek t y f bits at ≡ seek t y g (bits / 2) (get_or t at 0 + bits % 2)
  next f g bits at e u l n = rw e (pass g bits at u l n)

  pub seeking-next : (at bits link at' link' : ℕ) → Seeking at bits link → at < link → link < 32768 → key_at t link ≢ y
      → at' ≡ link + bits % 2 → link' ≡ get_or t at' 0 → Seeking at' (bits / 2) link'
  seeking-next at bits link at' link' s u l n e h = record {
    low = omega arith;
    here = h;
    left = s.left - 1;
    enough = omega (arith, s.enough);
    rest = s.rest ∙ next s.left (s.left - 1) bits at (omega (arith, s.enough)) (omega (arith, s.here)) (omega (arith, s.here))
        (λ z. n (ap (key_at t) s.here ∙ z))
        ∙ ap (seek t y (s.left - 1) (bits / 2)) (ap (λ (w : ℕ). w + bits % 2) (sym s.here) ∙ sym e);
  }
