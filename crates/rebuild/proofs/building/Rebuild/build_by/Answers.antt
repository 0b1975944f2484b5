use Rattle.std.proofs.Common.{map, refl, subst}
use Rattle.module_loading.specs.Supplying.{LoadsFrom}
use Rattle.rebuild.specs.Keeping.{graph_in, keeps}
use Rattle.rebuild.specs.Shelves.{HandsOver}
use Rattle.rebuild.proofs.Builds.{accepted, loaded-read, refused, stopped-read}
use Rattle.rebuild.proofs.building.Rebuild.build_by.Goals as goal

pub accept-requires-clause-read : goal.accept-requires-clause-read
accept-requires-clause-read g c =
    let r = g.G.ReadsModules in
    let told = g.W.FindsFiles.files c.args.files.now in
    let L : _ → Type 0 = λ ended. LoadsFrom r.reads r.requests r.shows r.refuses told c.args.entry.now r.requested (λ old path bytes new. HandsOver old path bytes new) c.in_ok-shelf.shelf c.load_from-modules.result.modules c.load_from-modules.new.supply ended in
    let loads = subst L c.in-Ok.is c.load_from-modules.ensures.loads in record {
      loaded = record { told = told; entry = c.args.entry.now; is_graph = loads.0 };
      read = loaded-read r.reads r.requests r.shows r.refuses told c.args.entry.now (keeps c.args.self.now) c.in_ok-shelf.shelf c.load_from-modules.new.supply c.in_ok-shelf.ensures.shelf c.load_from-modules.result.modules r.requested
          (map (λ m. m.made) loads.0.modules) loads.0 loads.1 refl;
    }

pub refuse-requires-clause-read : goal.refuse-requires-clause-read
refuse-requires-clause-read g c =
    let r = g.G.ReadsModules in
    let told = g.W.FindsFiles.files c.args.files.now in
    let L : _ → Type 0 = λ ended. LoadsFrom r.reads r.requests r.shows r.refuses told c.args.entry.now r.requested (λ old path bytes new. HandsOver old path bytes new) c.in_ok-shelf.shelf c.load_from-modules.result.modules c.load_from-modules.new.supply ended in
    let stops = subst L c.in-Err.is c.load_from-modules.ensures.loads in
    stopped-read r.reads r.requests r.shows r.refuses told c.args.entry.now (keeps c.args.self.now) c.in_ok-shelf.shelf c.load_from-modules.new.supply c.in_ok-shelf.ensures.shelf c.load_from-modules.result.modules c.in-Err.fault stops

pub returns-in-Ok-clause-builds : goal.returns-in-Ok-clause-builds
returns-in-Ok-clause-builds g c =
    let r = g.G.ReadsModules in
    let l = g.G.RelinksModules in
    let told = g.W.FindsFiles.files c.args.files.now in
    let L : _ → Type 0 = λ ended. LoadsFrom r.reads r.requests r.shows r.refuses told c.args.entry.now r.requested (λ old path bytes new. HandsOver old path bytes new) c.in_ok-shelf.shelf c.load_from-modules.result.modules c.load_from-modules.new.supply ended in
    let loads = subst L c.in-Ok.is c.load_from-modules.ensures.loads in
    accepted r.reads r.requests r.shows r.refuses told c.args.entry.now (keeps c.args.self.now) c.in_ok-shelf.shelf c.load_from-modules.new.supply c.in_ok-shelf.ensures.shelf c.load_from-modules.result.modules
    r.requested l.graph_of l.links l.unlinked c.args.hosts.now (keeps c.accept.new.self) (graph_in c.accept.new.self) loads.0 c.accept.result loads.1 c.accept.ensures.accepts

pub returns-in-Err-clause-builds : goal.returns-in-Err-clause-builds
returns-in-Err-clause-builds g c =
    let r = g.G.ReadsModules in
    let l = g.G.RelinksModules in
    let told = g.W.FindsFiles.files c.args.files.now in
    let L : _ → Type 0 = λ ended. LoadsFrom r.reads r.requests r.shows r.refuses told c.args.entry.now r.requested (λ old path bytes new. HandsOver old path bytes new) c.in_ok-shelf.shelf c.load_from-modules.result.modules c.load_from-modules.new.supply ended in
    let stops = subst L c.in-Err.is c.load_from-modules.ensures.loads in
    refused r.reads r.requests r.shows r.refuses told c.args.entry.now (keeps c.args.self.now) c.in_ok-shelf.shelf c.load_from-modules.new.supply c.in_ok-shelf.ensures.shelf c.load_from-modules.result.modules
    r.requested l.graph_of l.links l.unlinked c.args.hosts.now (keeps c.refuse.new.self) (graph_in c.refuse.new.self) c.in-Err.fault c.refuse.result stops c.refuse.ensures.refuses
