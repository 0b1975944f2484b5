use Rattle.std.proofs.Common.{◌≡◌, ℕ, List, [], ◌∷◌, ◌++◌, Some, None, sym, ◌∙◌, ap, take, vec_len}
use Rattle.std.specs.Prelude.{slice_get}
use Rattle.es_outside.specs.HostList.{names}
use Rattle.commands.proofs.Outcomes.{one_more_name, all_names}
use Rattle.commands.proofs.build.host_list.Goals as goal

pub loop-name-preserved : goal.loop-name-preserved
loop-name-preserved g c =
    let here : slice_get (names c.args.hosts.now) (vec_len c.loop-name.list) ≡ Some c.in-Some.name.now = ap (λ n. slice_get (names c.args.hosts.now) n) (sym c.len.ensures) ∙ sym c.in-Some.ensures in
    let name_is = c.in_ok-of_bytes.ensures ∙ c.as_bytes.ensures.value in
    c.in_ok-push.ensures.items
    ∙ ap (λ (x : List ℕ). c.loop-name.list.items ++ x ∷ []) name_is
    ∙ one_more_name (names c.args.hosts.now) c.loop-name.list.items (vec_len c.loop-name.list) c.in-Some.name.now c.loop-name.invariant here
    ∙ ap (λ (n : ℕ). take n (names c.args.hosts.now)) (sym c.in_ok-push.ensures.len)

pub returns : goal.returns
returns g c =
    let none : slice_get (names c.args.hosts.now) (vec_len c.loop-name.list) ≡ None = ap (λ n. slice_get (names c.args.hosts.now) n) (sym c.len.ensures) ∙ sym c.in_default.ensures in
    all_names (names c.args.hosts.now) c.loop-name.list.items (vec_len c.loop-name.list) c.loop-name.invariant none
