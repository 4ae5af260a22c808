use Rattle.mi_schema.specs.declared.known.Known.TheVariants as known
use Rattle.mi_schema.proofs.package.Package.empty.Goals as goal

pub returns : goal.returns
returns c = elim [
  | known.Component ↦ c.new.ensures.empty
  | known.Condition ↦ c.new-2.ensures.empty
  | known.CreateFolder ↦ c.new-3.ensures.empty
  | known.CustomAction ↦ c.new-4.ensures.empty
  | known.Directory ↦ c.new-5.ensures.empty
  | known.DuplicateFile ↦ c.new-6.ensures.empty
  | known.Environment ↦ c.new-7.ensures.empty
  | known.Feature ↦ c.new-8.ensures.empty
  | known.FeatureComponents ↦ c.new-9.ensures.empty
  | known.File ↦ c.new-10.ensures.empty
  | known.InstallExecuteSequence ↦ c.new-11.ensures.empty
  | known.LaunchCondition ↦ c.new-12.ensures.empty
  | known.MsiFileHash ↦ c.new-13.ensures.empty
  | known.Property ↦ c.new-14.ensures.empty
  | known.Registry ↦ c.new-15.ensures.empty
  | known.RemoveFile ↦ c.new-16.ensures.empty
  | known.RemoveRegistry ↦ c.new-17.ensures.empty
  | known.Shortcut ↦ c.new-18.ensures.empty
  | known.SummaryInformation ↦ c.new-19.ensures.empty
  | known.Upgrade ↦ c.new-20.ensures.empty
]
