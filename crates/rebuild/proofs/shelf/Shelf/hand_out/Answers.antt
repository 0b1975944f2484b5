use Rattle.std.proofs.Common.{[], ◌∷◌, ◌++◌, ap, ◌∙◌}
use Rattle.rebuild.specs.Shelves.{read_paths, shelved}
use Rattle.rebuild.proofs.Keeping.{kept-taken, unchanged}
use Rattle.rebuild.proofs.shelf.Shelf.hand_out.Goals as goal

pub returns-clause-handed : goal.returns-clause-handed
returns-clause-handed g c =
    let old = c.args.self.now in
    let path = c.args.path.now in
    let bytes = c.args.bytes.items in record {
      out_is = c.in_ok-push.ensures.ok ∙ ap (λ file. old.out ++ file ∷ []) (c.new.ensures ∙ ap (λ p. (p, bytes)) c.in_ok-from_str.ensures.ok);
      parsed_is = unchanged (shelved old) (path, bytes) (read_paths old) c.requires;
      others = λ other differs. kept-taken path old.kept c.remove.new.self c.remove.ensures.updates other differs;
    }
