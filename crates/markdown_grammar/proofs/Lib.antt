mod OrderedLevels
