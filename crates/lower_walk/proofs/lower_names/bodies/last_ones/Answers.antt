use Rattle.std.proofs.Common.{◌≡◌, ℕ, ◌+◌, ◌-◌, not, nat_eq, Bool, List, drop, ap, ◌∙◌, arith}
use Rattle.std.specs.Prelude.{reverse}
use Rattle.std.proofs.lemmas.List.{reverse-reverse}
use Rattle.indexmap.specs.IndexSet.{contains}
use Rattle.core_ast.specs.declared.parts.Var.{Var}
use Rattle.lower_walk.specs.lower_names.Counting.{has_var, last_ones_of}
use Rattle.lower_walk.proofs.lower_names.Counted.{flags_more, seen_more}
use Rattle.lower_walk.proofs.lower_names.bodies.last_ones.Goals as goal

pub loop-left-preserved : goal.loop-left-preserved
loop-left-preserved c =
    let vars : List Var = c.args.vars.now in
    let i : ℕ = c.loop-left.left - 1 in
    let v : Var = c.var_at-var.result in
    let back : c.loop-left.left ≡ i + 1 = omega arith in
    let seen : (k : ℕ) → contains nat_eq c.loop-left.seen k ≡ has_var k (drop (i + 1) vars) = λ k.
    c.loop-left.invariant.seen k ∙ ap (λ (n : ℕ). has_var k (drop n vars)) back
    in
    let new : c.in_ok-insert.field-0 ≡ not (has_var v.0 (drop (i + 1) vars)) =
    c.in_ok-insert.ensures.added ∙ ap (λ (b : Bool). not b) (seen v.0)
    in
    record {
      within = omega arith;
      flags =
          c.in_ok-push.ensures.items
          ∙ flags_more vars i v c.loop-left.flags.items c.in_ok-insert.field-0 c.var_at-var.ensures
          (c.loop-left.invariant.flags ∙ ap (λ (n : ℕ). reverse (last_ones_of (drop n vars))) back) new;
      seen = seen_more vars i v (contains nat_eq c.loop-left.seen) (contains nat_eq c.insert.new.self) c.var_at-var.ensures seen
          (λ k. c.in_ok-insert.ensures.updates.0 k);
    }

pub returns : goal.returns
returns c =
    let vars : List Var = c.args.vars.now in
    let none : c.loop-left.left ≡ 0 = omega arith in
    c.from_vec.ensures
    ∙ c.reverse.ensures.items
    ∙ ap (λ (bs : List Bool). reverse bs) (c.loop-left.invariant.flags ∙ ap (λ (n : ℕ). reverse (last_ones_of (drop n vars))) none)
    ∙ reverse-reverse (last_ones_of vars)
