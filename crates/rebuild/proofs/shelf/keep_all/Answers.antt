use Rattle.std.proofs.Common.{[], ◌∷◌, ◌++◌, Some, cond, sym, ap, ◌∙◌, append_assoc}
use Rattle.std.specs.Str.{bytes_eq}
use Rattle.rebuild.proofs.Read.{last-read, none-left}
use Rattle.rebuild.proofs.shelf.keep_all.Goals as goal

pub unreachable-requires : goal.unreachable-requires
unreachable-requires g c =
    none-left g.R.ReadsModules.reads c.loop-source.sources c.pop.new.self c.loop-source.modules c.in-Some.source c.in-Some.ensures c.in_default-pop.ensures.0 c.loop-source.invariant.0

pub keep-requires : goal.keep-requires
keep-requires g c =
    (last-read g.R.ReadsModules.reads c.loop-source.sources c.pop.new.self c.loop-source.modules c.pop-in-Some.new.self c.in-Some.source c.in-Some-pop.made c.in-Some.ensures c.in-Some-pop.ensures c.loop-source.invariant.0).1

pub loop-source-preserved : goal.loop-source-preserved
loop-source-preserved g c =
    let left = c.pop.new.self in
    let source = c.in-Some.source in
    let done = c.loop-source.invariant.1 in (
      (last-read g.R.ReadsModules.reads c.loop-source.sources left c.loop-source.modules c.pop-in-Some.new.self source c.in-Some-pop.made c.in-Some.ensures c.in-Some-pop.ensures c.loop-source.invariant.0).0,
      (
        source ∷ done.0,
        sym (append_assoc left (source ∷ []) done.0) ∙ ap (λ list. list ++ done.0) (sym c.in-Some.ensures) ∙ done.1,
        λ path. c.in_ok-keep.ensures path ∙ ap (λ there. cond (bytes_eq source.0 path) (Some source.1) there) (done.2 path),
      ),
    )
