-- What is around a run: its hosts and its output.
use Rattle.std.specs.Prelude.{◌≡◌, ℕ, ◌≤◌, List, map, Option, slice_index_or, String}
use Rattle.es_outside.specs.NamedList.{names_of}
use Rattle.es_outside.specs.declared.talk.Talk.{Talk}
use Rattle.program_runs.specs.Talks.{Talks}

-- the names of hosts, what they tell of their talks, and their counts of faults
pub record Hosted : Type 0 where
  pub names : List (List ℕ)
  pub talks : Talks
  pub faults : List ℕ

-- hosts beside their names, by what is told of a host
abbrev pub hosted : {A H : Type 0} → List (String A × H) → (H → Option Talk) → (H → ℕ) → Hosted
hosted hosts talk faults = record {
  names = names_of hosts;
  talks = map (λ entry. talk entry.1) hosts;
  faults = map (λ entry. faults entry.1) hosts;
}

-- the bytes that a sink tells, and its count of faults
pub record Output : Type 0 where
  pub bytes : Option (List ℕ)
  pub faults : ℕ

abbrev pub output : {S : Type 0} → (S → Option (List ℕ)) → (S → ℕ) → S → Output
output bytes faults sink = record { bytes = bytes sink; faults = faults sink }

pub record Around : Type 0 where
  pub hosts : Hosted
  pub output : Output

abbrev pub around : Hosted → Output → Around
around hosts output = record { hosts = hosts; output = output }

-- the count of faults of the host with this number
abbrev pub faults_at : Hosted → ℕ → ℕ
faults_at hosts number = slice_index_or hosts.faults number 0

-- The hosts are the same ones, and no count fell.
pub record KeepsHosts (old new : Hosted) : Type 0 where
  pub names : new.names ≡ old.names
  pub faults : (number : ℕ) → faults_at old number ≤ faults_at new number

pub record Keeps (old new : Around) : Type 0 where
  pub hosts : KeepsHosts old.hosts new.hosts
  pub output : old.output.faults ≤ new.output.faults
