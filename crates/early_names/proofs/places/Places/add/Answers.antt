use Rattle.std.proofs.Common.{◌≡◌, Some, cond, false, true, ap, sym, ◌∙◌}
use Rattle.std.specs.Str.{bytes_eq}
use Rattle.es6_static_semantics.specs.Findings.{is_name_of}
use Rattle.early_names.specs.Indexes.{place_of}
use Rattle.early_names.proofs.Listed.{get_by-updates, kept, placed}
use Rattle.early_names.proofs.places.Places.add.Goals as goal

pub returns-in_ok-insert : goal.returns-in_ok-insert
returns-in_ok-insert c = λ names h name.
    let x = c.args.name.now in
    let there : is_name_of x.name names ≡ false = ap (λ n. is_name_of n names) (sym c.bytes.ensures) ∙ sym (c.contains.ensures names h) ∙ c.if-not-contains.true in
    get_by-updates c.bytes-then-not-contains.result.now c.args.self.now.places c.insert.new.self (Some c.begin.result) c.in_ok-insert.ensures.updates name
    ∙ ap (λ n. cond (bytes_eq n name) (Some c.begin.result) (place_of c.args.self.now name)) c.bytes-then-not-contains.ensures
    ∙ ap (λ at. cond (bytes_eq x.name name) (Some at) (place_of c.args.self.now name)) c.begin.ensures
    ∙ ap (cond (bytes_eq x.name name) (Some x.span.begin)) (h name)
    ∙ placed x names there name

pub returns-else-not-contains : goal.returns-else-not-contains
returns-else-not-contains c = λ names h name.
    let x = c.args.name.now in
    let there : is_name_of x.name names ≡ true = ap (λ n. is_name_of n names) (sym c.bytes.ensures) ∙ sym (c.contains.ensures names h) ∙ c.if-not-contains.false in
    h name ∙ kept x names there name
