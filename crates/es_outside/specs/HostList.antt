-- What contracts see of hosts: the list of names and hosts that they were made of.
use Rattle.std.specs.Prelude.{ℕ, List, String}
use Rattle.std.specs.Global.{Global}
use Rattle.std.specs.declared.dyn_box.DynBox.{DynBox}
use Rattle.es_outside.specs.declared.hosts.Hosts.{Hosts}
use Rattle.es_outside.specs.NamedList.{names_of}

-- the hosts beside their names, in order
abbrev pub entries : {D : _} {H : _} → Hosts D H → List (String Global × DynBox D Global H)
entries hosts = hosts.list.items

-- the names, in order
abbrev pub names : {D : _} {H : _} → Hosts D H → List (List ℕ)
names hosts = names_of (entries hosts)
