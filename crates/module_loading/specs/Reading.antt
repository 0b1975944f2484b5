-- What is read of the bytes of one file.
use Rattle.std.specs.Prelude.{Result, Ok, Err}
use Rattle.module_loading.specs.declared.unread.Unread.{Unread}
use Rattle.module_loading.specs.declared.unread.Unread.TheVariants.{Refused, OutOfMemory}

-- A module, or a fault. Memory that runs out says nothing.
abbrev pub ReadsTo : {M F : Type 0} → (M → Type 0) → (F → Type 0) → Result M (Unread F) → Type 0
ReadsTo reads refuses (Ok made) = reads made
ReadsTo reads refuses (Err (Refused f)) = refuses f
ReadsTo reads refuses (Err OutOfMemory) = Unit {0}

-- that it holds where the bytes have a fault
abbrev pub IfRefused : {M F : Type 0} → Result M (Unread F) → Type 0 → Type 0
IfRefused (Ok made) P = Unit {0}
IfRefused (Err (Refused f)) P = P
IfRefused (Err OutOfMemory) P = Unit {0}
