use Rattle.std.proofs.Common.{ap, sym, ◌∙◌}
use Rattle.std.specs.Prelude.{string_bytes}
use Rattle.std.specs.Str.{bytes_eq}
use Rattle.module_loading.specs.Requests.{is_listed}
use Rattle.module_loading.proofs.PathLists.{list_any-map}
use Rattle.module_loading.proofs.path_list.PathList.has.Goals as goal

pub returns : goal.returns
returns c =
    c.contains.ensures ∙ sym (list_any-map (bytes_eq c.args.path.now) (λ path. string_bytes path) c.self.inside.paths.keys)
    ∙ ap (λ paths. is_listed c.args.path.now paths) c.self.view_is
