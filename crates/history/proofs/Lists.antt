-- A list of calls in two parts.
use mathlib.Core.Path.{◌≡◌, refl}
use mathlib.Core.List.{List, [], ◌∷◌, ◌++◌}
use Rattle.orders.specs.declared.Order.{Order}
use Rattle.state.specs.Model.{Model}
use Rattle.history.specs.History.{Call, History, call, run}

pub run-append : (M : Model) (os : List Order) (cs ds : List Call) (s : History) → run M os (cs ++ ds) s ≡ run M os ds (run M os cs s)
unfolding run
run-append M os [] ds s = refl
run-append M os (c ∷ cs) ds s = run-append M os cs ds (call M os c s)

-- one call more at the end
pub run-last : (M : Model) (os : List Order) (cs : List Call) (c : Call) (s : History) → run M os (cs ++ (c ∷ [])) s ≡ call M os c (run M os cs s)
unfolding run
run-last M os cs c s = run-append M os cs (c ∷ []) s
