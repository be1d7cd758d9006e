-- The marks of the members are the planned way.
use Rattle.std.proofs.Common.{◌≡◌, ℕ, false, List, Bool, get_or, Some, ap, ◌∙◌, subst}
use mathlib.Core.Path.{fun_ext}
use Rattle.steps.specs.declared.step.Step.{Step}
use Rattle.steps.specs.Sheet.{Descending}
use Rattle.ways.specs.Ways.{Way}
use Rattle.plans.specs.declared.Plan.{Plan}
use Rattle.plans.specs.Limited.{taken_at}
use Rattle.plans.specs.Plan.{planned, planned_way}
use Rattle.plans.specs.Planned.{PlansOrNone}
use Rattle.plans.proofs.Planned.{planned_right}
use Rattle.dispatch.specs.Members.{members}

-- marks of a way that is taken at a limit of the same steps
pub marks_taken : (limit : ℕ) (xs ss : List Step) (marks : List Bool) → xs ≡ ss → ((k : ℕ) → get_or marks k false ≡ taken_at limit xs k) → members marks ≡ taken_at limit ss
marks_taken limit xs ss marks same each = fun_ext each ∙ ap (taken_at limit) same

pub planned_is_way : (benches : ℕ) (ss : List Step) → Descending ss → (c : Plan) → planned benches ss ≡ Some c → Way ss (planned_way ss c)
planned_is_way benches ss low c e = (subst (PlansOrNone benches ss) e (planned_right benches ss low)).way
