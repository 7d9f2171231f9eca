-- How the files of a request are opened, and how the program ends.
use Rattle.std.proofs.Common.{◌<◌, Option, Some, None, arith}
use Rattle.flow_files.specs.ByFile.{Role, turn}
use Rattle.flow_files.specs.ByFile as role
use Rattle.flow_files.specs.Opening.{CanOpen, IsOpened}
use Rattle.flow_files.specs.Sources.{Text}
use Rattle.flow_files.specs.Readers.{Source}

-- a file that is opened can be
pub opens : {R : Type 0} (answers : Text → Option R → Type 0) (name : Option Text) (file : Option (Source R)) → IsOpened answers name file → CanOpen answers name
opens answers None None opened = tt
opens answers (Some name) (Some source) opened = (source.reader, opened.1)
opens answers None (Some source) opened = absurd opened
opens answers (Some name) None opened = absurd opened

-- a property of the first files
pub before_flows : (P : Role → Type 0) → P role.Map → P role.List → P role.Certificate → (r : Role) → turn r < 3 → P r
before_flows P map list certificate role.Map before = map
before_flows P map list certificate role.List before = list
before_flows P map list certificate role.Certificate before = certificate
before_flows P map list certificate role.Flows before = absurd (omega (arith, before))

pub before_certificate : (P : Role → Type 0) → P role.Map → P role.List → (r : Role) → turn r < 2 → P r
before_certificate P map list r before =
    before_flows (λ q. turn q < 2 → P q) (λ early. map) (λ early. list) (λ early. absurd (omega (arith, early))) r (omega (arith, before)) before
