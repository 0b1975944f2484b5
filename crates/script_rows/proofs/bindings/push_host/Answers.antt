use Rattle.std.proofs.Common.{◌≡◌, ◌++◌, ℕ, [], ◌∷◌, List, sym, ap, subst, ◌∙◌}
use Rattle.std.proofs.lemmas.List.{append-nil}
use Rattle.std.specs.Result.{OnOk}
use Rattle.std.specs.Str.{bytes_eq}
use Rattle.core_meaning.specs.State.{Binding}
use Rattle.script_core.specs.declared.nothing.Nothing.{Nothing}
use Rattle.script_rows.proofs.Hosts.{host_found, host_passed, no_function, no_host}
use Rattle.script_rows.proofs.bindings.push_host.Goals as goal

pub returns-in_default : goal.returns-in_default
returns-in_default c =
    let behind : List (Binding Nothing) → List (Binding Nothing) = λ bs. c.args.bindings.now ++ bs in
    c.loop-at.invariant.unwritten
    ∙ sym (append-nil c.args.bindings.now)
    ∙ ap behind (sym (no_host c.args.var c.args.name.now c.args.hosts.now c.args.functions.now c.loop-at.at (sym c.in_default.ensures)) ∙ c.loop-at.invariant.same)

pub returns-then-eq : goal.returns-then-eq
returns-then-eq c =
    let P : List (Binding Nothing) → Type 0 = λ bs. OnOk c.push.result (c.push.new.self ≡ bs) in
    let before : List (Binding Nothing) → List (Binding Nothing) = λ bs. bs ++ c.user_binding.result ∷ [] in
    let last : Binding Nothing → List (Binding Nothing) = λ b. c.args.bindings.now ++ b ∷ [] in
    let behind : List (Binding Nothing) → List (Binding Nothing) = λ bs. c.args.bindings.now ++ bs in
    let same : bytes_eq c.args.name.now c.in-Some.host.now ≡ _ = sym (ap (λ (b : List ℕ). bytes_eq c.args.name.now b) c.as_bytes.ensures.value) ∙ sym c.eq.ensures ∙ c.if-eq.true in
    let found = host_found c.args.var c.args.name.now c.in-Some.host.now c.args.hosts.now c.args.functions.now c.loop-at.at (record { 0 = 0 }) (sym c.in-Some.ensures) c.loop-at-test.true same in
    subst P
    (ap before c.loop-at.invariant.unwritten ∙ ap last c.user_binding.ensures ∙ ap behind (sym found ∙ c.loop-at.invariant.same))
    c.push.ensures.ok

pub loop-at-preserved : goal.loop-at-preserved
loop-at-preserved c =
    let differs : bytes_eq c.args.name.now c.in-Some.host.now ≡ _ = sym (ap (λ (b : List ℕ). bytes_eq c.args.name.now b) c.as_bytes.ensures.value) ∙ sym c.eq.ensures ∙ c.if-eq.false in
    record {
      unwritten = c.loop-at.invariant.unwritten;
      same =
          sym (host_passed c.args.var c.args.name.now c.in-Some.host.now c.args.hosts.now c.args.functions.now c.loop-at.at (sym c.in-Some.ensures) c.loop-at-test.true differs)
          ∙ c.loop-at.invariant.same;
    }

pub returns : goal.returns
returns c =
    let behind : List (Binding Nothing) → List (Binding Nothing) = λ bs. c.args.bindings.now ++ bs in
    c.loop-at.invariant.unwritten
    ∙ sym (append-nil c.args.bindings.now)
    ∙ ap behind (sym (no_function c.args.var c.args.name.now c.args.hosts.now c.args.functions.now c.loop-at.at c.loop-at-test.false) ∙ c.loop-at.invariant.same)
