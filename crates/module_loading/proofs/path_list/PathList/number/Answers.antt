use Rattle.std.proofs.Common.{ap, sym, ◌∙◌}
use Rattle.std.specs.Prelude.{position, string_bytes}
use Rattle.std.specs.Str.{bytes_eq}
use Rattle.module_loading.proofs.PathLists.{position-map}
use Rattle.module_loading.proofs.path_list.PathList.number.Goals as goal

pub returns-in-None : goal.returns-in-None
returns-in-None c =
    c.in-None.ensures.index ∙ sym (position-map (bytes_eq c.args.path.now) (λ path. string_bytes path) c.self.inside.paths.keys)
    ∙ ap (λ paths. position (bytes_eq c.args.path.now) paths) c.self.view_is

pub returns-in-Some : goal.returns-in-Some
returns-in-Some c =
    c.in-Some.ensures.index ∙ sym (position-map (bytes_eq c.args.path.now) (λ path. string_bytes path) c.self.inside.paths.keys)
    ∙ ap (λ paths. position (bytes_eq c.args.path.now) paths) c.self.view_is
