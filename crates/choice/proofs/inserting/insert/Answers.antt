-- A number that is found is kept, and another goes to its place.
use Rattle.std.proofs.Common.{Ok, Err, ◌∙◌, subst}
use Rattle.std.specs.List.Sorted.{IsBinarySearchResult}
use Rattle.std.specs.Ordering.{nat_cmp}
use Rattle.choice.proofs.Places.{inserted}
use Rattle.choice.proofs.inserting.insert.Goals as goal

pub returns-in-Err : goal.returns-in-Err
returns-in-Err g c =
    let x = c.args.x in
    let searched = subst (λ ys. IsBinarySearchResult (λ y. nat_cmp y x) ys (Err c.in-Err.place)) c.as_slice.ensures.value c.in-Err.ensures.position in
    c.insert.ensures.items ∙ inserted x c.args.list.now.items c.requires.ascending (Err c.in-Err.place) searched

pub returns-in-Ok : goal.returns-in-Ok
returns-in-Ok g c =
    let x = c.args.x in
    let searched = subst (λ ys. IsBinarySearchResult (λ y. nat_cmp y x) ys (Ok c.in-Ok._found)) c.as_slice.ensures.value c.in-Ok.ensures.position in
    inserted x c.args.list.now.items c.requires.ascending (Ok c.in-Ok._found) searched
