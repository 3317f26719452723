-- The names of faults, as they are printed.
use Rattle.std.specs.Prelude.{ℕ, List, codes}
use Rattle.udfs_file.specs.declared.faults.NodeFault.{NodeFault}
use Rattle.udfs_file.specs.declared.faults.NodeFault.TheVariants as fault
use Rattle.udfs_file.specs.declared.faults.FrontError.{FrontError}
use Rattle.udfs_file.specs.declared.faults.FrontError.TheVariants as front_error
use Rattle.udfs_file.specs.declared.faults.WalkError.{WalkError}
use Rattle.udfs_file.specs.declared.faults.WalkError.TheVariants as walk_error

-- a fault's name, as the report prints it
abbrev pub node_fault_name : NodeFault → List ℕ
node_fault_name fault.Tag = codes "Tag"
node_fault_name fault.Strategy = codes "Strategy"
node_fault_name fault.Descriptors = codes "Descriptors"
node_fault_name fault.Lengths = codes "Lengths"
node_fault_name fault.Reference = codes "Reference"
node_fault_name fault.Range = codes "Range"
node_fault_name fault.Short = codes "Short"
node_fault_name fault.Chain = codes "Chain"
node_fault_name fault.Odd = codes "Odd"
node_fault_name fault.IdentifierTag = codes "IdentifierTag"
node_fault_name fault.Name = codes "Name"
node_fault_name fault.Cut = codes "Cut"
node_fault_name fault.Depth = codes "Depth"

-- the text of a walk's error
abbrev pub walk_error_text : WalkError → List ℕ
walk_error_text (walk_error.Fault fault) = node_fault_name fault
walk_error_text walk_error.OutOfMemory = codes "out of memory"

-- the text of an error of a directory's front
abbrev pub front_error_text : FrontError → List ℕ
front_error_text front_error.TooMany = codes "too many entries"
front_error_text front_error.OutOfMemory = codes "out of memory"
