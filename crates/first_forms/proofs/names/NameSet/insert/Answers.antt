use Rattle.first_forms.proofs.NameSets.{insert-view}
use Rattle.first_forms.proofs.names.NameSet.insert.Goals as goal

pub returns : goal.returns
returns c =
    insert-view (λ v. v.items) c.self.inside.names.keys c.insert.new.self.keys c.in_ok-to_vec.field-0 c.args.name.now c.args.self.now
    c.in_ok-insert.ensures.keys (c.in_ok-to_vec.ensures.items_if_clones_equal (λ x y e. e)) c.self.view_is
