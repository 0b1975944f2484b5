use Rattle.std.proofs.Common.{◌≡◌, List, ℕ, ◌≤◌, ◌∷◌, ◌++◌, [], arith, ap, length, subst, string_bytes, map, take, sym, ◌∙◌}
use Rattle.std.proofs.lemmas.List.{map-append, length-map, take_all}
use Rattle.es_outside.specs.Refusals.{AreHostNames}
use Rattle.es_outside.specs.NamedList.{names_of}
use Rattle.es_outside.proofs.NameLemmas.{names-next}
use Rattle.es_outside.proofs.hosts.Hosts.names.Goals as goal

pub loop-name-preserved : goal.loop-name-preserved
loop-name-preserved g c =
    let next = names-next (λ entry. string_bytes entry.0) c.deref-name-items.result.now c.loop-name.name-index c.loop-name-item.result (omega arith)
    c.loop-name-item.is in
    ap (λ names. map (λ name. string_bytes name) names) c.in_ok-push.ensures.items
    ∙ map-append (λ name. string_bytes name) c.loop-name.list.items (c.in_ok-clone.field-0 ∷ [])
    ∙ ap (λ (names : List (List ℕ)). names ++ string_bytes c.in_ok-clone.field-0 ∷ []) c.loop-name.invariant
    ∙ ap (λ (name : List ℕ). take c.loop-name.name-index (names_of c.args.self.now.list.items) ++ name ∷ []) c.in_ok-clone.ensures.cases
    ∙ sym (rw c.deref-name-items.ensures.value at next)

pub invariant_of-result : goal.invariant_of-result
invariant_of-result g c =
    let over : length (names_of c.args.self.now.list.items) ≤ c.loop-name.name-index = simp length-map (rw c.deref-name-items.ensures.value at c.loop-name-test.false) in
    let all : map (λ name. string_bytes name) c.loop-name.list.items ≡ names_of c.args.self.now.list.items
    = c.loop-name.invariant ∙ take_all c.loop-name.name-index (names_of c.args.self.now.list.items) over in
    subst AreHostNames (sym all) c.args.self.now.are_host_names
