use Rattle.std.proofs.Common.{◌≡◌, ℕ, ◌≤◌, Bool, List, [], ◌++◌, drop, length, map, sym, ap, ◌∙◌, append-nil, arith}
use Rattle.std.proofs.lemmas.List.{drop_all}
use Rattle.lower_walk.specs.lower_names.Counting.{kept}
use Rattle.module_lowering.specs.Nodes.{Hoisted}
use Rattle.lower_listed.specs.declared.functions.HoistedAt.{HoistedAt}
use Rattle.lower_listed.specs.Hoisted.{hoisted_of}
use Rattle.lower_listed.proofs.Kept.{kept_none}
use Rattle.lower_listed.proofs.hoisted.marked.Goals as goal

pub returns : goal.returns
returns c =
    let made : List Hoisted = map hoisted_of c.loop-function.kept in
    let fs : List HoistedAt = c.args.functions.now in
    let i : ℕ = c.loop-function.function-index in
    let left : List Bool = c.loop-function.left.now in
    let end : length fs ≤ i = omega arith in
    let none : kept left (map hoisted_of (drop i fs)) ≡ [] =
    ap (λ (xs : List HoistedAt). kept left (map hoisted_of xs)) (drop_all i fs end) ∙ kept_none left in
    sym (append-nil made) ∙ sym (ap (λ (hs : List Hoisted). made ++ hs) none) ∙ c.loop-function.invariant
