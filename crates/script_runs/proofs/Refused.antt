-- What the parser refuses, as what is wrong with a script.
use Rattle.std.proofs.Common.{◌≡◌, ◌≤◌, ℕ, List, length, subst}
use Rattle.std.specs.Str.{chars, IsUtf8}
use Rattle.es5_text.specs.declared.fault.Fault5.{Fault5}
use Rattle.es5_text.specs.Read.{IsRefused}
use Rattle.run_lines.specs.declared.script_fault.ScriptFault.TheVariants.{Missing, ReadFailed, FileTooLong, NotUtf8, At}
use Rattle.script_runs.specs.declared.unread.Unread.{Unread}
use Rattle.script_runs.specs.declared.unread.Unread.TheVariants.{Refused, OutOfMemory}
use Rattle.script_runs.specs.Scripts.{IsFoundAt, IsPlacedIn, IsUnread}

pub unread : (bytes text : List ℕ) (f : Fault5) (u : Unread) → length bytes ≤ 67108864 → IsUtf8 bytes → IsRefused bytes f → text ≡ chars bytes → IsPlacedIn text f u → IsUnread bytes u
unread bytes text f OutOfMemory within utf8 refused t p = tt
unread bytes text f (Refused (At place finding)) within utf8 refused t p =
    (within, utf8, record { fault = f; refused = refused; placed = subst (λ x. IsFoundAt x f place finding) t p })
unread bytes text f (Refused Missing) within utf8 refused t p = absurd p
unread bytes text f (Refused ReadFailed) within utf8 refused t p = absurd p
unread bytes text f (Refused FileTooLong) within utf8 refused t p = absurd p
unread bytes text f (Refused (NotUtf8 at)) within utf8 refused t p = absurd p
