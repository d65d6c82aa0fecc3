-- Sound tables in the documents' words, and the kinds of unsound.
use mathlib.Core.Logic.{◌↔◌}
use mathlib.Core.List.{List}
use Prim.Native.Nat.{ℕ}
use lib.ListN.{length}
use Rattle.homes.specs.declared.Hash.{Hash}
use Rattle.flaws.specs.Promise.{Intact}
use Rattle.flaws.proofs.Theorem.{sound-says, theorem as flaws}
use Rattle.state.specs.Model.{Model, Proper}
use Rattle.protocol.specs.Promise.{SoundIn, Soundness, GappedIn, DisorderedIn, SoundnessPromise}

pub sounds : SoundnessPromise
sounds = record { words = words; kinds = kinds }
  where
    words : (M : Model) (ab : Hash) (t : List ℕ) → SoundIn M ab t ↔ Soundness M ab t
    words M ab t =
        let (to, from) = sound-says t (M.home ab (length t)) in
        (λ s. let (w, o) = to s in record { intact = w; ordered = o }, λ h. from (h.intact, h.ordered))

    kinds : (M : Model) → Proper M → (ab : Hash) (t : List ℕ) → Soundness M ab t ↔ (Intact t × (GappedIn M ab t → ⊥) × (DisorderedIn M ab t → ⊥))
    kinds M proper ab t =
        let (a, b) = words M ab t in
        let (f, g) = flaws.sound (M.home ab (length t)) t (λ l x. proper.homes ab (length t) x l) in
        (λ s. f (b s), λ h. a (g h))
