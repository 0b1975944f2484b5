use Rattle.std.proofs.Common.{rules}
use Rattle.source_exports.proofs.Entries.{names_all}
use Rattle.source_exports.proofs.names.+names.Goals as goal

pub add_names-returns-clause-names : goal.add_names-returns-clause-names
add_names-returns-clause-names t c =
    names_all c.args.names.now c.add_own.new.names c.add_all_names.new.names c.add_others.new.names c.args.depth c.args.known.now c.args.seen.now c.push.new.self c.args.number c.in_ok-stars.stars
    (search rules) (search rules) (search rules) (search rules) (search rules) (search rules) (search rules)
