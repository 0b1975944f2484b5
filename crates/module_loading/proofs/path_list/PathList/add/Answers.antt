use Rattle.std.specs.Prelude.{string_bytes}
use Rattle.module_loading.proofs.PathLists.{insert-view}
use Rattle.module_loading.proofs.path_list.PathList.add.Goals as goal

pub returns : goal.returns
returns c =
    insert-view (λ path. string_bytes path) c.self.inside.paths.keys c.insert.new.self.keys c.args.path c.args.self.now c.in_ok-insert.ensures.keys c.self.view_is
