use Rattle.std.proofs.Common.{[], ◌∷◌, ◌++◌, ap, ◌∙◌, map}
use Rattle.std.specs.Prelude.{string_bytes}
use Rattle.module_loading.proofs.Lists.{map-push}
use Rattle.rebuild.specs.Shelves.{read_paths, shelved}
use Rattle.rebuild.proofs.Keeping.{is-changed, kept-taken}
use Rattle.rebuild.proofs.shelf.Shelf.handed.Goals as goal

pub returns-clause-handed : goal.returns-clause-handed
returns-clause-handed g c =
    let old = c.args.self.now in
    let path = c.args.path.now in
    let bytes = c.args.bytes.items in record {
      out_is = c.in_ok-push-2.ensures.ok ∙ ap (λ file. old.out ++ file ∷ []) (c.new.ensures ∙ ap (λ p. (p, bytes)) c.in_ok-from_str-2.ensures.ok);
      parsed_is = ap (λ list. map (λ s. string_bytes s) list) c.in_ok-push.ensures.items ∙ map-push (λ s. string_bytes s) old.parsed.items c.in_ok-from_str.field-0
          ∙ ap (λ p. read_paths old ++ p ∷ []) c.in_ok-from_str.ensures.ok ∙ is-changed (shelved old) (path, bytes) (read_paths old) c.requires;
      others = λ other differs. kept-taken path old.kept c.remove.new.self c.remove.ensures.updates other differs;
    }
