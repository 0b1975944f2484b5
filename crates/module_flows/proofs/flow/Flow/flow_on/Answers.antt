use Rattle.std.proofs.Common.{List, ℕ, ◌<◌, sym, subst, ap, ◌∙◌, length}
use Rattle.std.specs.List.{All}
use Rattle.module_flows.specs.declared.found.Found.{Found}
use Rattle.module_flows.specs.Flows.{found_at, users_of}
use Rattle.module_flows.specs.Steps.{Spreads}
use Rattle.module_flows.proofs.Kept.{all-users}
use Rattle.module_flows.proofs.flow.Flow.flow_on.Goals as goal

pub spread-requires : goal.spread-requires
spread-requires c =
    let P : List ℕ → Type 0 = λ ns. All (λ n. n < length c.args.self.now.found) ns in
    let Q : ℕ → Type 0 = λ count. All (λ n. n < count) (users_of c.args.users.now c.args.node) in
    subst P (sym c.users_of.ensures) (subst Q (sym c.requires.size) (all-users (λ n. n < length c.args.users.now) c.args.users.now c.args.node c.requires.users))

pub returns : goal.returns
returns c =
    let P : List ℕ → Type 0 = λ ns. Spreads ns c.found_at-value.result c.args.self.now c.spread.new.self in
    let Q : Found → Type 0 = λ value. Spreads (users_of c.args.users.now c.args.node) value c.args.self.now c.spread.new.self in
    subst Q (c.found_at-value.ensures ∙ ap (λ xs. found_at xs c.args.node) c.as_slice.ensures) (subst P c.users_of.ensures c.in_ok-spread.ensures)
