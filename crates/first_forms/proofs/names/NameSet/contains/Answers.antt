use Rattle.std.proofs.Common.{ap, sym, ◌∙◌}
use Rattle.std.specs.Str.{bytes_eq}
use Rattle.first_forms.specs.Names.{is_one_of}
use Rattle.first_forms.proofs.NameSets.{list_any-map}
use Rattle.first_forms.proofs.names.NameSet.contains.Goals as goal

pub returns : goal.returns
returns c =
    c.contains.ensures ∙ sym (list_any-map (bytes_eq c.args.name.now) (λ v. v.items) c.self.inside.names.keys)
    ∙ ap (λ names. is_one_of c.args.name.now names) c.self.view_is
