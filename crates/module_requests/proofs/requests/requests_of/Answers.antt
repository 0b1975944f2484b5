use Rattle.std.proofs.Common.{◌++◌, ap, ◌∙◌}
use Rattle.es6_static_semantics.specs.Findings.{joined}
use Rattle.es6_static_semantics.specs.Graphs.{item_specifiers}
use Rattle.module_requests.specs.Requests.{open_request, requests_in}
use Rattle.module_requests.proofs.Joined.{joined_mapped}
use Rattle.module_requests.proofs.requests.requests_of.Goals as goal

pub returns : goal.returns
returns c =
    c.in_ok-add_requests.ensures ∙ ap (λ list. list ++ joined requests_in c.as_slice.result.now) c.new-all.ensures ∙ ap (λ list. joined requests_in list) c.as_slice.ensures
    ∙ joined_mapped open_request item_specifiers c.args.tree.now.items
