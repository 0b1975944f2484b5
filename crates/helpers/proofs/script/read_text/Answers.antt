-- What parse5 says of the text's bytes.
use Rattle.std.proofs.Common.{subst}
use Rattle.std.specs.Prelude.{IfErr, IfOk}
use Rattle.es5_text.specs.Accepted.{AcceptsAtBreaks}
use Rattle.es5_text.specs.Faults.{IsFault}
use Rattle.es5_text.specs.Parsed.{IsParsed}
use Rattle.helpers.proofs.script.read_text.Goals as goal

pub returns-clause-parsed : goal.returns-clause-parsed
returns-clause-parsed c =
    subst (λ bytes. IfOk c.parse5.result (λ script. IsParsed bytes script)) c.helper_text-text.ensures c.parse5.ensures.parsed

pub returns-clause-accepted : goal.returns-clause-accepted
returns-clause-accepted c = subst (λ bytes. AcceptsAtBreaks bytes c.parse5.result) c.helper_text-text.ensures c.parse5.ensures.accepted

pub returns-clause-fault : goal.returns-clause-fault
returns-clause-fault c =
    subst (λ bytes. IfErr c.parse5.result (λ fault. IsFault bytes fault)) c.helper_text-text.ensures c.parse5.ensures.fault
