-- What the policies mean.
use Rattle.std.specs.Prelude.{ℕ, Bool, not, List, ◌==◌, nat_lt, refl}
use Rattle.std.specs.List.{position}
use Rattle.std.specs.Option.{unwrap_or}
use Rattle.steps.specs.declared.ready.Ready.{Ready}
use Rattle.steps.specs.Placing.{Placing}
use Rattle.policies.specs.Places.{best}
use Rattle.policies.specs.Found.{by_less, by_more, best_inside, first_or_inside, placing}
use Rattle.policies.specs.Values.{value_or}

abbrev pub sheet_order : Placing
sheet_order = record { place = λ rs. 0; inside = λ rs some. some; unordered = λ rs e. refl; nothing = refl }

-- the longer tail comes before the shorter
abbrev pub longer : Ready → Ready → Bool
longer s r = nat_lt r.tail s.tail

abbrev pub longest_tail : Placing
longest_tail = placing (best longer) (best_inside longer (by_more (λ r. r.tail))) refl

-- a step for which no rank is kept comes last
abbrev pub unranked : ℕ
unranked = 65535

abbrev pub rank : List ℕ → Ready → ℕ
rank ranks r = value_or unranked ranks r.step

-- the lower rank comes before the higher
abbrev pub outranks : List ℕ → Ready → Ready → Bool
outranks ranks s r = nat_lt (rank ranks s) (rank ranks r)

abbrev pub counter_list : List ℕ → Placing
counter_list ranks = placing (best (outranks ranks)) (best_inside (outranks ranks) (by_less (rank ranks))) refl

-- any value but 0 is a mark; a step for which none is kept has no mark
abbrev pub marked : List ℕ → Ready → Bool
marked marks r = not (value_or 0 marks r.step == 0)

abbrev pub rush_layer : List ℕ → Placing → Placing
rush_layer marks below =
    placing (λ rs. unwrap_or (position (marked marks) rs) (below.place rs))
    (λ rs some. first_or_inside (marked marks) (below.place rs) rs (below.inside rs some)) below.nothing
